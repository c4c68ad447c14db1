use Rattle.std.proofs.Common.{◌≡◌, take}
use Rattle.ledger_core.specs.Openings.{book_rows}
use Rattle.ledger_core.proofs.opening.book_rows.Given as goal

abbrev pub invariant-loop-row : goal.invariant-loop-row
invariant-loop-row l = l.made.items ≡ book_rows (take l.row-index l.rows)
