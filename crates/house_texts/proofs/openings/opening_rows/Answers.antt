use Rattle.std.proofs.Common.{sym, ◌∙◌, arith}
use Rattle.std.proofs.lemmas.Grind.{common_steps}
use Rattle.house_texts.specs.Openings.{open_by}
use Rattle.house_texts.proofs.Picking.{picks_more, picks_none}
use Rattle.house_texts.proofs.openings.opening_rows.Goals as goal
use Rattle.house_texts.proofs.openings.opening_rows.Goals.{in-Some+in_ok-push, in_default}

pub loop-declaration-preserved : goal.loop-declaration-preserved
loop-declaration-preserved c =
    elim c.match-open_by.branch [
      | in-Some+in_ok-push w ↦ picks_more (open_by c.args.holders.now c.args.ledger.now) c.args.declarations.now c.loop-declaration.declaration-index c.declaration-item.result w.in-Some.row c.loop-declaration.rows.items c.match-open_by.rows.items (omega arith) c.declaration-item.is c.loop-declaration.invariant (sym c.open_by.ensures ∙ w.in-Some.is) (grind (arith, common_steps))
      | in_default w ↦ rw w.rows-is (picks_none (open_by c.args.holders.now c.args.ledger.now) c.args.declarations.now c.loop-declaration.declaration-index c.declaration-item.result c.loop-declaration.rows.items (omega arith) c.declaration-item.is c.loop-declaration.invariant (sym c.open_by.ensures ∙ w.in_default.is))
    ]
