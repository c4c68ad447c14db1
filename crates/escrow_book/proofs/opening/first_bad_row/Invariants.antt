use Rattle.std.proofs.Common.{◌≡◌, ◌≤◌, take, drop}
use Rattle.escrow_book.specs.Opening.{most_rows, first_bad_row, first_bad_behind}
use Rattle.escrow_book.proofs.opening.first_bad_row.Given as goal

abbrev pub invariant-loop-place : goal.invariant-loop-place
invariant-loop-place l = record {
  first : first_bad_row l.rows ≡ first_bad_behind (take l.place l.rows) (drop l.place l.rows);
  few : l.place ≤ most_rows;
}
