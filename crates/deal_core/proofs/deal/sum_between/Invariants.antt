use Rattle.std.proofs.Common.{◌≡◌, take}
use Rattle.deal_core.specs.Deals.{matrix_of}
use Rattle.deal_core.proofs.deal.sum_between.Given as goal

abbrev pub invariant-loop-step : goal.invariant-loop-step
invariant-loop-step l = l.sum ≡ matrix_of (take l.step-index l.steps) l.from l.to l.ledger l.asset
