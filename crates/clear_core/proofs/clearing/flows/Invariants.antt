use Rattle.std.proofs.Common.{◌≡◌, take}
use Rattle.clear_core.specs.Clearing.{outgoing, incoming}
use Rattle.clear_core.proofs.clearing.flows.Given as goal

abbrev pub invariant-loop-step : goal.invariant-loop-step
invariant-loop-step l = record {
  went : l.went ≡ outgoing (take l.step-index l.steps) l.party l.ledger l.asset;
  came : l.came ≡ incoming (take l.step-index l.steps) l.party l.ledger l.asset;
}
