use Rattle.std.proofs.Common.{◌≡◌, ◌++◌, map}
use Rattle.ledger_rows.proofs.HeldRows.{row_with}
use Rattle.ledger_rows.proofs.held_rows.held_rows.Given as goal

abbrev pub invariant-loop-asset : goal.invariant-loop-asset
invariant-loop-asset l = l.held.items ++ map row_with l.asset-iterator ≡ map row_with l.initial.asset-iterator
