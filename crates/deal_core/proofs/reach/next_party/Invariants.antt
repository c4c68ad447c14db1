use Rattle.std.proofs.Common.{◌≡◌, ℕ, ◌<◌, true, get_or}
use Rattle.deal_core.specs.Marks.{near, far, is_marked}
use Rattle.deal_core.specs.declared.step.Step.{Step}
use Rattle.deal_core.proofs.reach.next_party.Given as goal

abbrev pub invariant-loop-step : goal.invariant-loop-step
invariant-loop-step l =
    (k : ℕ) (d : Step) → k < l.step-index → is_marked l.marks (near l.way (get_or l.steps k d)) ≡ true → is_marked l.marks (far l.way (get_or l.steps k d)) ≡ true
