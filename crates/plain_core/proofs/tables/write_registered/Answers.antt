use Rattle.std.proofs.Common.{rules, ◌≡◌, Some, ap, sym, ◌∙◌, arith}
use Rattle.std.proofs.lemmas.Grind.{common_steps}
use Rattle.escrow_book.specs.History.{settlement_of}
use Rattle.plain_script.specs.Ids.{plain_id}
use Rattle.plain_core.proofs.tables.write_registered.Goals as goal

pub returns-in_ok-write-in-Some : goal.returns-in_ok-write-in-Some
returns-in_ok-write-in-Some c =
    let ended : settlement_of c.args.book.now (plain_id c.args.deal.now) ≡ Some c.in-Some.outcome = ap (settlement_of c.args.book.now) (sym c.plain_id.ensures) ∙ (sym c.settlement.ensures ∙ c.in-Some.is) in
    rw ended (first_of (search rules, grind (arith, common_steps)))
