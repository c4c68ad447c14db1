use Rattle.std.proofs.Common.{◌≡◌, take}
use Rattle.clear_core.specs.Clearing.{outgoing, incoming, excess, greatest_to}
use Rattle.clear_core.proofs.clearing.greatest_excess.Given as goal

abbrev pub invariant-loop-step : goal.invariant-loop-step
invariant-loop-step l = record {
  went : l.went ≡ outgoing (take l.step-index l.steps) l.party l.ledger l.asset;
  came : l.came ≡ incoming (take l.step-index l.steps) l.party l.ledger l.asset;
  need : l.need ≡ greatest_to (excess l.steps l.party l.ledger l.asset) l.step-index;
}
