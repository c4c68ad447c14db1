use Rattle.std.proofs.Common.{◌≡◌, take}
use Rattle.std.specs.List.{sum_by}
use Rattle.escrow_book.specs.Opening.{row_amount}
use Rattle.escrow_book.proofs.book.Book.opening.Given as goal

abbrev pub invariant-loop-row : goal.invariant-loop-row
invariant-loop-row l = l.sum ≡ sum_by (row_amount l.account l.asset) (take l.row-index l.row-items)
