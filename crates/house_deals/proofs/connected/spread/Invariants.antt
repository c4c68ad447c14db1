use Rattle.std.proofs.Common.{◌≡◌, take}
use Rattle.house_deals.specs.Connected.{one_round}
use Rattle.house_deals.proofs.connected.spread.Given as goal

abbrev pub invariant-loop-step : goal.invariant-loop-step
invariant-loop-step l = l.marks ≡ one_round l.way (take l.step-index l.steps) l.initial.marks
