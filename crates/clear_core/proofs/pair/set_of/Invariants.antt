use Rattle.std.proofs.Common.{◌≡◌, take}
use Rattle.clear_core.specs.Pairs.{pairs_of}
use Rattle.clear_core.proofs.pair.set_of.Given as goal

abbrev pub invariant-loop-step : goal.invariant-loop-step
invariant-loop-step l = l.set.keys ≡ pairs_of (take l.step-index l.steps)
