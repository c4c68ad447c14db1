use Rattle.std.proofs.Common.{◌≡◌, ◌+◌, ◌≤◌, drop}
use Rattle.ledger_rows.specs.RowReading.{first_formless}
use Rattle.ledger_rows.specs.RowValues.{registration_in}
use Rattle.ledger_rows.specs.Scanning.{settled_rows}
use Rattle.ledger_rows.proofs.scans.settled_among.Given as goal

abbrev pub invariant-loop-row : goal.invariant-loop-row
invariant-loop-row l = record {
  formed : first_formless registration_in l.rows ≡ first_formless registration_in (drop l.row-index l.rows);
  counted : settled_rows l.rows ≡ l.count + settled_rows (drop l.row-index l.rows);
  few : l.count ≤ l.row-index;
}
