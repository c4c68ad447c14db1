-- What opening a ledger answers and commits by the tables that it finds, and by a history.
use Rattle.std.specs.Prelude.{ℕ, ◌≡◌, ◌+◌, ◌-◌, ◌<◌, ◌≤◌, ◌==◌, Bool, false, if◌then◌else◌, List, [], ◌∷◌, map, length, Option, Some, None, is_some, IfSome, IfOk, Result, Ok, Err}
use Rattle.std.specs.Int.{w64}
use Rattle.std.specs.Option.{option_map, option_or}
use Rattle.std.specs.FinMap.{empty}
use Rattle.dh_base.specs.declared.id.Id.{Id}
use Rattle.dh_base.specs.Ids.{same_id}
use Rattle.escrow_book.specs.Opening.{Row, first_bad_row}
use Rattle.keeper_core.specs.declared.change.Change.{Change}
use Rattle.keeper_core.specs.declared.change.Change.TheVariants.{Put}
use Rattle.keeper_core.specs.declared.row.Row.{Row as KeptRow}
use Rattle.keeper_core.specs.declared.store_fault.StoreFault.{StoreFault}
use Rattle.keeper_core.specs.declared.store_fault.StoreFault.TheVariants as store
use Rattle.keeper_core.specs.Tables.{Tables, rows_of}
use Rattle.keeper_core.specs.Knowing.{Known, LooksAtMost}
use Rattle.keeper_core.specs.Leaving.{ended}
use Rattle.keeper_core.specs.NumberedRows.{IsNumbered}
use Rattle.keeper_core.specs.Stepping.{WhereTold, LeavesBy, IsReply, Backs, commits_unless}
use Rattle.keeper_core.specs.StoreFaults.{bad_row_of, HasCause}
use Rattle.ledger_rows.specs.declared.entry.Entry.{Entry}
use Rattle.ledger_rows.specs.RowKeys.{deal_tab, entry_tab}
use Rattle.ledger_rows.specs.RowValues.{registration_in}
use Rattle.ledger_rows.specs.RowChanges.{free_change}
use Rattle.ledger_rows.specs.RowReading.{forms_refusal, is_formed}
use Rattle.ledger_rows.specs.Scanning.{settled_rows}
use Rattle.ledger_acts.specs.LedgerStep.{Opened, acts_of}
use Rattle.ledger_acts.specs.LedgerState.{form_tab, form_key, IsState}
use Rattle.ledger_core.specs.declared.form_row.FormRow.{FormRow}
use Rattle.ledger_core.specs.declared.open_fault.OpenFault.{OpenFault}
use Rattle.ledger_core.specs.declared.opens.Counts.{Counts}
use Rattle.ledger_core.specs.declared.refused.Refused.{Refused}
use Rattle.ledger_core.specs.Ledgers.{LedgerTold}
use Rattle.ledger_core.specs.declared.open_fault.OpenFault.TheVariants.{BadOpening, OtherOpening, Store}
use Rattle.ledger_core.specs.OpenFaults.{of_open_fault}
use Rattle.ledger_core.specs.FormRows.{form_in, form_said}

-- ---- counts

-- every history has fewer entries
abbrev pub most_entries : ℕ
most_entries = 2097152

-- If the rows of entries are numbered, they are so many, from the one number on and below the
-- other.
abbrev pub CountsWithin : ℕ → ℕ → Tables → Type 0
CountsWithin from below tables = (vals : List (List ℕ)) → IsNumbered w64 entry_tab 1 vals tables →
    length vals < most_entries → (from ≤ length vals) × (length vals < below)

-- if the rows of entries are numbered, and few enough, they are so many
abbrev pub CountsEntries : ℕ → Tables → Type 0
CountsEntries count tables = (vals : List (List ℕ)) → IsNumbered w64 entry_tab 1 vals tables →
    length vals < most_entries → count ≡ length vals

abbrev pub deal_rows : Tables → List KeptRow
deal_rows tables = rows_of deal_tab tables

abbrev pub deals_refusal : Tables → Option StoreFault
deals_refusal tables = forms_refusal registration_in deal_tab (deal_rows tables)

-- how many entries there are; and how many acts, which are those that settle no deal
abbrev pub AreCounts : Tables → Counts → Type 0
AreCounts tables counts =
    CountsEntries counts.entries tables
    × (counts.acts ≡ counts.entries - settled_rows (deal_rows tables))

-- how many rows are looked up beside those of deals
abbrev pub counting_looks : Tables → ℕ
counting_looks tables = 22 + length (deal_rows tables)

-- ---- what is committed on empty tables

abbrev pub opening_changes : List Row → List Change
opening_changes rows = map (λ (row : Row). free_change row.0 row.1 row.2) rows

abbrev pub begin_changes : Id → List Row → List Change
begin_changes identity rows =
    Put form_tab form_key (1 ∷ 1 ∷ identity.0) ∷ opening_changes rows

-- a history without entries
abbrev pub no_counts : Counts
no_counts = record { entries = 0; acts = 0 }

-- ---- by the tables

abbrev pub bad_opening : Opened → Option OpenFault
bad_opening opened = option_map BadOpening (first_bad_row opened.rows)

-- other tables must name this opening
abbrev pub kept_refusal : Id → Tables → Option (Option FormRow) → Option OpenFault
kept_refusal identity tables None = Some (Store (bad_row_of form_tab form_key))
kept_refusal identity tables (Some None) = None
kept_refusal identity tables (Some (Some form)) =
    if same_id form.identity identity then option_map Store (deals_refusal tables)
    else Some (OtherOpening form.identity)

abbrev pub open_refusal : Opened → Tables → Option OpenFault
open_refusal opened tables =
    option_or (bad_opening opened) (kept_refusal opened.identity tables (form_said tables))

-- tables that name no opening are filled
abbrev pub batches_for : Id → List Row → Option (Option FormRow) → List (List Change)
batches_for identity rows (Some None) = begin_changes identity rows ∷ []
batches_for identity rows _ = []

abbrev pub open_batches : Opened → Tables → List (List Change)
open_batches opened tables = batches_for opened.identity opened.rows (form_said tables)

abbrev pub AreCountsFor : Tables → Option (Option FormRow) → Counts → Type 0
AreCountsFor tables (Some (Some form)) counts = AreCounts tables counts
AreCountsFor tables _ counts = counts ≡ no_counts

-- The ledger is opened by the tables, and commits one batch where they are empty.
pub record OpensBy (refusal : Tables → Option OpenFault) (batches : Tables → List (List Change))
    (result : Result Counts OpenFault) (before after : Known) : Type 0 where
  pub leaves : LeavesBy (commits_unless refusal batches) (ended of_open_fault result) before after
  pub reply : WhereTold before after (λ tables.
      IsReply of_open_fault (refusal tables) (AreCountsFor tables (form_said tables)) result)
  pub looked : WhereTold before after (λ tables.
      LooksAtMost (64 + length (deal_rows tables)) before after)

-- where the rows of the opening are good
abbrev pub OpensGood : Id → List Row → Result Counts OpenFault → Known → Known → Type 0
OpensGood identity rows =
    OpensBy (λ tables. kept_refusal identity tables (form_said tables))
    (λ tables. batches_for identity rows (form_said tables))

abbrev pub OpensByRows : Opened → Result Counts OpenFault → Known → Known → Type 0
OpensByRows opened = OpensBy (open_refusal opened) (open_batches opened)

-- ---- by the history

abbrev pub AreCountsOf : List Entry → Counts → Type 0
AreCountsOf entries counts =
    (counts.entries ≡ length entries) × (counts.acts ≡ acts_of entries)

-- What is kept is what is opened: tables that stand for a history of this ledger are opened at it.
abbrev pub OpensKept : Opened → Result Counts OpenFault → Known → Known → Type 0
OpensKept opened result before after =
    (entries : List Entry) → Backs (IsState opened) before.tables entries →
    IfSome after.tables (λ _. IsReply of_open_fault None (AreCountsOf entries) result)
    × Backs (IsState opened) after.tables entries

-- Empty tables stand for the history without entries, once a ledger is opened on them.
abbrev pub OpensEmpty : Opened → Result Counts OpenFault → Known → Known → Type 0
OpensEmpty opened result before after =
    before.tables ≡ Some empty →
    IfOk result (λ counts. IfSome after.tables
    (λ tables. AreCountsOf [] counts × IsState opened tables []))

-- ---- why a ledger is not opened

-- The row has the form of its table's rows, the one that names an opening too.
abbrev pub has_its_form : ℕ → KeptRow → Bool
has_its_form tab row = if tab == form_tab then is_some (form_in row.val) else is_formed tab row

abbrev pub LacksItsForm : ℕ → KeptRow → Type 0
LacksItsForm tab row = has_its_form tab row ≡ false

-- the fault is the keeper's, or want of memory
abbrev pub IsStoreOnly : OpenFault → Type 0
IsStoreOnly (Store store.Keeper) = Unit {0}
IsStoreOnly (Store store.NoMemory) = Unit {0}
IsStoreOnly _ = ⊥

-- A row that is named lacks its form.
abbrev pub OpenCause : Option Tables → OpenFault → Type 0
OpenCause told (Store fault) = HasCause LacksItsForm told fault
OpenCause told _ = Unit {0}

-- ---- what is given back

-- the counts of the ledger, or why it is not opened
abbrev pub counts_of : {K : Type 0} → Result (LedgerTold K) (Refused K) → Result Counts OpenFault
counts_of (Ok ledger) = Ok (record { entries = ledger.entries; acts = ledger.acts })
counts_of (Err refused) = Err refused.fault

-- the keeper, in the ledger or with the refusal
abbrev pub kept_by : {K : Type 0} → Result (LedgerTold K) (Refused K) → K
kept_by (Ok ledger) = ledger.keeper
kept_by (Err refused) = refused.keeper
