use Rattle.std.proofs.Common.{◌≡◌, ◌++◌, drop}
use Rattle.ledger_rows.specs.RowKeys.{hold_tab}
use Rattle.ledger_rows.specs.Scanning.{first_unformed}
use Rattle.ledger_claims.specs.Payees.{owned_of}
use Rattle.ledger_claims.proofs.owned.owned_among.Given as goal

abbrev pub invariant-loop-row : goal.invariant-loop-row
invariant-loop-row l = record {
  formed : first_unformed hold_tab l.rows ≡ first_unformed hold_tab (drop l.row-index l.rows);
  owned : l.owned.items ++ owned_of l.deal (drop l.row-index l.rows) ≡ owned_of l.deal l.rows;
}
