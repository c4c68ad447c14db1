use Rattle.std.proofs.Common.{◌≡◌}
use Rattle.house_deals.specs.Connected.{after_rounds, first_mark}
use Rattle.house_deals.proofs.connected.marks.Given as goal

abbrev pub invariant-loop-round : goal.invariant-loop-round
invariant-loop-round l = l.marks ≡ after_rounds l.way l.steps l._round first_mark
