use Rattle.std.proofs.Common.{take}
use Rattle.clear_core.proofs.FirstOver.{Found}
use Rattle.clear_core.proofs.checking.first_over.Given as goal

abbrev pub invariant-loop-step : goal.invariant-loop-step
invariant-loop-step l = Found l.deal.steps l.party l.gives (take l.step-index l.step-items) l.found
