use Rattle.std.proofs.Common.{◌≡◌, List, None, sym, ap, subst, ◌∙◌}
use Rattle.escrow_book.specs.declared.row.BookRow.{BookRow}
use Rattle.escrow_book.specs.History.{History}
use Rattle.escrow_book.specs.PartRows.{part_of}
use Rattle.escrow_book.specs.Refused.{settle_refusal}
use Rattle.ledger_claims.specs.Settling.{part_rows}
use Rattle.ledger_claims.proofs.SettlementPart.{part_settles}
use Rattle.ledger_claims.proofs.settling.settled_part.Goals as goal

pub end_in-requires : goal.end_in-requires
end_in-requires c =
    let deal = c.args.deal.now in
    let rows = part_rows deal c.args.text.now c.args.payees.now in
    let is : c.in_ok-book.book ≡ part_of rows = c.in_ok-book.ensures.1 ∙ ap (λ (r : List BookRow). part_of r) (c.deref.ensures.value ∙ c.in_ok-rows.ensures) in
    subst (λ (book : History). settle_refusal book deal ≡ None) (sym is) (part_settles deal c.args.text.now c.args.payees.now)
