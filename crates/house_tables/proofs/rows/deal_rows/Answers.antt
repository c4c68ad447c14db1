use Rattle.std.proofs.Common.{sym, ◌∙◌, arith}
use Rattle.std.proofs.lemmas.Grind.{common_steps}
use Rattle.house_tables.specs.Rows.{deal_read}
use Rattle.house_tables.proofs.Picking.{picks_more, picks_none}
use Rattle.house_tables.proofs.rows.deal_rows.Goals as goal
use Rattle.house_tables.proofs.rows.deal_rows.Goals.{in-Some+in_ok-push, in_default}

pub loop-row-preserved : goal.loop-row-preserved
loop-row-preserved c =
    elim c.match-branch-2.branch [
      | in-Some+in_ok-push w ↦ picks_more deal_read c.args.rows.now c.loop-row.row-index c.row-item.result w.in-Some.read c.loop-row.deals.items c.match-branch-2.deals.items (omega arith) c.row-item.is c.loop-row.invariant (sym c.in_ok-read.ensures ∙ w.in-Some.is) (grind (arith, common_steps))
      | in_default w ↦ rw w.deals-is (picks_none deal_read c.args.rows.now c.loop-row.row-index c.row-item.result c.loop-row.deals.items (omega arith) c.row-item.is c.loop-row.invariant (sym c.in_ok-read.ensures ∙ w.in_default.is))
    ]
