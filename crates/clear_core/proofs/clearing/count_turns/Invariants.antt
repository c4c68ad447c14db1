use Rattle.std.proofs.Common.{◌≡◌, take}
use Rattle.clear_core.specs.Clearing.{turns_of}
use Rattle.clear_core.proofs.clearing.count_turns.Given as goal

abbrev pub invariant-loop-step : goal.invariant-loop-step
invariant-loop-step l = l.count ≡ turns_of (take l.step-index l.steps) l.party l.ledger
