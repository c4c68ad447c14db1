use Rattle.std.proofs.Common.{◌≡◌, ◌≤◌, ◌++◌, length}
use Rattle.std.specs.Vec.Iter.{into_iter_items, into_iter_len}
use Rattle.seat_rows.specs.SeatReading.{text_rows}
use Rattle.seat_rows.proofs.lists.read_texts.Given as goal

abbrev pub invariant-loop-row : goal.invariant-loop-row
invariant-loop-row l = record {
  parted : l.fn.rows ≡ text_rows l.texts.items ++ into_iter_items l.row-iterator;
  left : into_iter_len l.row-iterator ≡ length (into_iter_items l.row-iterator);
}
