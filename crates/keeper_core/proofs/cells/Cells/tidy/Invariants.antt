use Rattle.std.proofs.Common.{◌≡◌}
use Rattle.keeper_core.specs.Slots.{filled}
use Rattle.keeper_core.proofs.cells.Cells.tidy.Given as goal

abbrev pub invariant-loop-change : goal.invariant-loop-change
invariant-loop-change l = filled l.self ≡ filled l.initial.self
