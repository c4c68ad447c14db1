-- What is said by all rows of a table together.
use Rattle.std.specs.Prelude.{ℕ, ◌≡◌, ◌↔◌, ◌+◌, ◌==◌, ◌&&◌, Bool, true, false, nat_lt, if◌then◌else◌, List, [], ◌∷◌, ◌++◌, map, length, Option, Some, None, is_some}
use Rattle.std.specs.Int.{w64}
use Rattle.std.specs.List.{Contains, count_by, AllByRecursion}
use Rattle.std.specs.List.Sorted.{IsStrictlySortedBy}
use Rattle.std.specs.Option.{option_map, option_or, option_and_then}
use Rattle.std.specs.Ordering.{nat_cmp}
use Rattle.std.specs.Cmp.Lexicographic.{slice_cmp}
use Rattle.std.specs.FinMap.{get}
use Rattle.std.specs.Str.{bytes_eq}
use Rattle.act_text.specs.declared.statement.HeldRow.{HeldRow}
use Rattle.dh_base.specs.Fields.{name_field}
use Rattle.dh_base.specs.Names.{is_name}
use Rattle.escrow_book.specs.Opening.{Row as OpeningRow}
use Rattle.escrow_book.specs.Reached.{IsReached}
use Rattle.keeper_core.specs.declared.row.Row.{Row}
use Rattle.keeper_core.specs.declared.store_fault.StoreFault.{StoreFault}
use Rattle.keeper_core.specs.StoreFaults.{bad_row_of}
use Rattle.keeper_core.specs.Tables.{Tables, rows_of}
use Rattle.ledger_rows.specs.declared.entry.Entry.{Entry}
use Rattle.ledger_rows.specs.declared.entry.Entry.TheVariants.{Act, Settlement}
use Rattle.ledger_rows.specs.declared.registration.Registration.{Registration}
use Rattle.ledger_rows.specs.Entries.{book_of}
use Rattle.ledger_rows.specs.LedgerTables.{StandsFor}
use Rattle.ledger_rows.specs.RowKeys.{deal_tab}
use Rattle.ledger_rows.specs.RowReading.{is_formed}
use Rattle.ledger_rows.specs.RowValues.{number_from, registration_in, EntryFits}

-- how many rows a scan of the table looks up
abbrev pub rows_in : ℕ → Tables → ℕ
rows_in tab tables = 1 + length (rows_of tab tables)

-- the first of the rows that has not its form
abbrev pub first_unformed : ℕ → List Row → Option Row
first_unformed tab [] = None
first_unformed tab (row ∷ rows) =
    if is_formed tab row then first_unformed tab rows else Some row

-- the first of the rows is named that has not its form
abbrev pub rows_refusal : ℕ → List Row → Option StoreFault
rows_refusal tab rows = option_map (λ (row : Row). bad_row_of tab row.key) (first_unformed tab rows)

-- A scan names the first row that has not its form.
abbrev pub scan_refusal : ℕ → Tables → Option StoreFault
scan_refusal tab tables = rows_refusal tab (rows_of tab tables)

-- ---- amounts by assets

-- the number that a row begins with
abbrev pub amount_in : List ℕ → ℕ
amount_in val = if nat_lt (length val) 8 then 0 else number_from w64 0 val

abbrev pub above_zero : ℕ → Option ℕ
above_zero n = if n == 0 then None else Some n

-- what the row has of the asset, where the asset stands in its key behind that front
abbrev pub listed_by : List ℕ → Row → List ℕ → Option ℕ
listed_by front row asset =
    if is_name asset && bytes_eq row.key (front ++ name_field asset)
    then above_zero (amount_in row.val) else None

-- what the last of the rows has of the asset that has it
abbrev pub listed : List ℕ → List Row → List ℕ → Option ℕ
listed front [] asset = None
listed front (row ∷ rows) asset =
    option_or (listed front rows asset) (listed_by front row asset)

-- what the table has of the asset
abbrev pub amount_at : ℕ → List ℕ → Tables → List ℕ → Option ℕ
amount_at tab front tables asset =
    if is_name asset
    then option_and_then (λ val. above_zero (amount_in val))
    (get tables (tab, front ++ name_field asset)) else None

-- what there is of an asset, where that is more than nothing
abbrev pub some_of : (List ℕ → ℕ) → List ℕ → Option ℕ
some_of amount_of asset = if is_name asset then above_zero (amount_of asset) else None

-- Each asset is before those behind it, by its characters.
abbrev pub AreInOrder : List HeldRow → Type 0
AreInOrder rows =
    IsStrictlySortedBy (slice_cmp nat_cmp) (map (λ (row : HeldRow). row.asset) rows)

-- The rows are the amounts of all assets that have one, in ascending order of the assets.
pub record AreAmounts (amount_of : List ℕ → Option ℕ) (rows : List HeldRow) : Type 0 where
  pub ascend : AreInOrder rows
  pub all : (row : HeldRow) → Contains rows row ↔ (amount_of row.asset ≡ Some row.amount)

-- ---- settled deals

-- it has ended
abbrev pub is_settled : Registration → Bool
is_settled deal = is_some deal.settled

abbrev pub is_settled_if : Option Registration → Bool
is_settled_if None = false
is_settled_if (Some deal) = is_settled deal

abbrev pub is_settled_row : Row → Bool
is_settled_row row = is_settled_if (registration_in row.val)

-- how many of the registered deals have ended
abbrev pub settled_rows : List Row → ℕ
settled_rows rows = count_by is_settled_row rows

abbrev pub settled_said : Tables → Option ℕ
settled_said tables = Some (settled_rows (rows_of deal_tab tables))

-- the entry settles a deal
abbrev pub is_settlement : Entry → Bool
is_settlement (Act account q message) = false
is_settlement (Settlement deal outcome) = true

-- Where tables stand for a history of entries that have a spelling, as many deals have ended by the
-- rows as by the entries.
abbrev pub SettledCounted : Type 0
SettledCounted = (tables : Tables) (opening : List OpeningRow) (entries : List Entry) →
    StandsFor tables opening entries → AllByRecursion EntryFits entries →
    IsReached (book_of opening entries) →
    settled_rows (rows_of deal_tab tables) ≡ count_by is_settlement entries
