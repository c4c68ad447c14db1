use Rattle.std.proofs.Common.{◌∙◌}
use Rattle.keeper_core.proofs.Filled.{filled_same}
use Rattle.keeper_core.proofs.cells.Cells.tidy.Goals as goal

pub loop-change-preserved : goal.loop-change-preserved
loop-change-preserved c = filled_same c.loop-change.self c.prune.new.self c.prune.ensures ∙ c.loop-change.invariant
