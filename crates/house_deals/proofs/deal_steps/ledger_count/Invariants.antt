use Rattle.std.proofs.Common.{◌≡◌, ◌+◌, ◌≤◌, take, drop}
use Rattle.deal_core.specs.Kept.{new_ledgers, ledger_count}
use Rattle.house_deals.proofs.deal_steps.ledger_count.Given as goal

abbrev pub invariant-loop-place : goal.invariant-loop-place
invariant-loop-place l = record {
  so_far : l.count + new_ledgers (take l.place l.steps) (drop l.place l.steps) ≡ ledger_count l.steps;
  few : l.count ≤ l.place;
}
