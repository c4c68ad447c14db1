use Rattle.std.proofs.Common.{◌≡◌, ◌++◌, take}
use Rattle.ledger_core.specs.Opens.{opening_changes}
use Rattle.ledger_core.proofs.opens.put_opening.Given as goal

-- the changes of the rows so far
abbrev pub invariant-loop-row : goal.invariant-loop-row
invariant-loop-row l = l.batch ≡ l.fn.batch ++ opening_changes (take l.row-index l.rows)
