use Rattle.std.proofs.Common.{◌≡◌, drop}
use Rattle.ledger_rows.specs.Scanning.{first_unformed}
use Rattle.ledger_rows.proofs.row_form.check_forms.Given as goal

abbrev pub invariant-loop-row : goal.invariant-loop-row
invariant-loop-row l = first_unformed l.tab l.rows ≡ first_unformed l.tab (drop l.row-index l.rows)
