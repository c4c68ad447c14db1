use Rattle.std.proofs.Common.{◌≡◌, ◌≤◌, ◌*◌, ◌^◌, take}
use Rattle.deal_core.specs.Deals.{total_of}
use Rattle.house_deals.proofs.deal_steps.total.Given as goal

abbrev pub invariant-loop-step : goal.invariant-loop-step
invariant-loop-step l = record {
  so_far : l.sum ≡ total_of (take l.step-index l.steps) l.ledger l.asset;
  small : l.sum ≤ 2 ^ 64 * l.step-index;
}
