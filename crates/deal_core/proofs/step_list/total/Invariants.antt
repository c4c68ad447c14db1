use Rattle.std.proofs.Common.{◌≡◌, take}
use Rattle.deal_core.specs.Deals.{total_of}
use Rattle.deal_core.proofs.step_list.total.Given as goal

abbrev pub invariant-loop-step : goal.invariant-loop-step
invariant-loop-step l = l.sum ≡ total_of (take l.step-index l.steps) l.ledger l.asset
