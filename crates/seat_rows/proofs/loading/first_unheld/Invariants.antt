use Rattle.std.proofs.Common.{◌≡◌, drop}
use Rattle.std.specs.List.{position_from}
use Rattle.seat_rows.specs.SeatLoading.{is_unheld}
use Rattle.seat_rows.proofs.loading.first_unheld.Given as goal

abbrev pub invariant-loop-at : goal.invariant-loop-at
invariant-loop-at l = position_from (is_unheld l.log.texts) l.at (drop l.at l.texts) ≡ position_from (is_unheld l.log.texts) 0 l.texts
