-- The row that says what a keeper's tables are.
use Rattle.std.specs.Prelude.{ℕ, ◌==◌, ◌&&◌, if◌then◌else◌, List, length, drop, slice_index, Option, Some, None}
use Rattle.keeper_core.specs.Tables.{Tables}
use Rattle.ledger_rows.specs.RowReading.{row_at}
use Rattle.ledger_acts.specs.LedgerState.{form_tab, form_key}
use Rattle.ledger_core.specs.declared.form_row.FormRow.{FormRow}

-- the form of the tables, the role of a ledger, and the identity of its opening
abbrev pub form_in : List ℕ → Option FormRow
form_in val =
    if (length val == 34) && ((slice_index val 0 == 1) && (slice_index val 1 == 1))
    then Some (record { identity = record { 0 = drop 2 val } }) else None

abbrev pub form_said : Tables → Option (Option FormRow)
form_said tables = row_at form_in form_tab form_key tables
