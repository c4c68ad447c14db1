use Rattle.std.proofs.Common.{sym, ◌∙◌, arith}
use Rattle.std.proofs.lemmas.Grind.{common_steps}
use Rattle.house_tables.specs.Printing.{party_line_in}
use Rattle.house_tables.proofs.Picking.{picks_more, picks_none}
use Rattle.house_tables.proofs.printing.party_lines.Goals as goal
use Rattle.house_tables.proofs.printing.party_lines.Goals.{in-Some+in_ok-push, in_default}

pub loop-row-preserved : goal.loop-row-preserved
loop-row-preserved c =
    elim c.match-branch-2.branch [
      | in-Some+in_ok-push w ↦ picks_more (party_line_in c.args.directory.now c.args.deal.now) c.args.holds.now c.loop-row.row-index c.row-item.result w.in-Some.line c.loop-row.lines.items c.match-branch-2.lines.items (omega arith) c.row-item.is c.loop-row.invariant (sym c.in_ok-line.ensures ∙ w.in-Some.is) (grind (arith, common_steps))
      | in_default w ↦ rw w.lines-is (picks_none (party_line_in c.args.directory.now c.args.deal.now) c.args.holds.now c.loop-row.row-index c.row-item.result c.loop-row.lines.items (omega arith) c.row-item.is c.loop-row.invariant (sym c.in_ok-line.ensures ∙ w.in_default.is))
    ]
