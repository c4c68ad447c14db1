use Rattle.std.proofs.Common.{◌≡◌, ◌≤◌, ◌++◌, length}
use Rattle.std.specs.Int.{w32}
use Rattle.std.specs.Vec.Iter.{into_iter_items, into_iter_len}
use Rattle.keeper_core.specs.NumberedRows.{numbered_rows}
use Rattle.seat_rows.specs.SeatTables.{record_texts}
use Rattle.seat_rows.proofs.lists.read_records.Given as goal

abbrev pub invariant-loop-row : goal.invariant-loop-row
invariant-loop-row l = record {
  parted : l.fn.rows ≡ numbered_rows w32 0 (record_texts l.recs.items) ++ into_iter_items l.row-iterator;
  left : into_iter_len l.row-iterator ≡ length (into_iter_items l.row-iterator);
  few : length l.recs.items ≤ 4096;
}
