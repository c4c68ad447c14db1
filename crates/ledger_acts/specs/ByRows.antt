-- What a call answers and leaves that reads rows, decides by them, and commits.
use Rattle.std.specs.Prelude.{ℕ, ◌≡◌, ◌+◌, ◌≤◌, ◌⊎◌, List, [], ◌∷◌, length, Option, Some, None, IfErr, Result}
use Rattle.std.specs.List.{slice_get}
use Rattle.std.specs.Option.{option_map, option_and_then, option_or}
use Rattle.sha2.specs.Sha256.{sha256}
use Rattle.dh_base.specs.declared.id.Id.{Id}
use Rattle.escrow_book.specs.declared.part_fault.PartFault.{PartFault}
use Rattle.escrow_book.specs.declared.part_fault.PartFault.TheVariants as part
use Rattle.escrow_book.specs.declared.row.BookRow.{BookRow}
use Rattle.escrow_book.specs.declared.row.BookRow.TheVariants.{Free, Deal, Hold, Moves}
use Rattle.escrow_book.specs.PartRows.{no_rows, first_fault}
use Rattle.keeper_core.specs.declared.change.Change.{Change}
use Rattle.keeper_core.specs.declared.store_fault.StoreFault.{StoreFault}
use Rattle.keeper_core.specs.declared.store_fault.StoreFault.TheVariants as store
use Rattle.keeper_core.specs.Tables.{Cell, Tables, rows_of}
use Rattle.keeper_core.specs.Knowing.{Known, LooksAtMost}
use Rattle.keeper_core.specs.Leaving.{ended}
use Rattle.keeper_core.specs.Stepping.{WhereTold, LeavesBy, IsReply, commits_unless}
use Rattle.keeper_core.specs.StoreFaults.{IsBadRow}
use Rattle.ledger_rows.specs.RowKeys.{free_tab, deal_tab, hold_tab, moves_tab, free_key, deal_key, hold_key, moves_key}
use Rattle.ledger_rows.specs.RowReading.{LacksForm}
use Rattle.ledger_acts.specs.declared.ledger_fault.LedgerFault.{LedgerFault}
use Rattle.ledger_acts.specs.declared.ledger_fault.LedgerFault.TheVariants.{Store}
use Rattle.ledger_acts.specs.LedgerFaults.{of_ledger_fault}

-- The fault is the refusal. Want of memory may come in place of any answer.
abbrev pub IsRefusedBy : Option LedgerFault → LedgerFault → Type 0
IsRefusedBy refusal (Store store.Keeper) = ⊥
IsRefusedBy refusal (Store store.NoMemory) = Unit {0}
IsRefusedBy refusal fault = refusal ≡ Some fault

-- ---- look-ups

-- So many rows are looked up at most, and one more for each row of the table that is gone through,
-- if there is one and its rows are told.
abbrev pub LooksBy : ℕ → Option ℕ → Known → Known → Type 0
LooksBy rows None before after = LooksAtMost rows before after
LooksBy rows (Some tab) before after =
    (before.looked ≤ after.looked)
    × WhereTold before after (λ tables.
    after.looked ≤ before.looked + (rows + length (rows_of tab tables)))

-- ---- why a row is named

-- the table and the key of the row that says so
abbrev pub cell_of_row : BookRow → Cell
cell_of_row (Free account asset amount) = (free_tab, free_key account asset)
cell_of_row (Deal deal parties settled) = (deal_tab, deal_key deal)
cell_of_row (Hold deal account asset commit abort) = (hold_tab, hold_key deal account asset)
cell_of_row (Moves deal account moves) = (moves_tab, moves_key deal account)

-- the place of the row that has the fault
abbrev pub place_of : PartFault → Option ℕ
place_of (part.BadRows place) = Some place
place_of (part.SumTooLarge place) = Some place
place_of part.NoMemory = None

-- The row is the first of some that fits no part of a book with those before it.
pub record FitsNoPart (tab : ℕ) (digest : Id) : Type 0 where
  pub rows : List BookRow
  pub place : ℕ
  pub row : BookRow
  pub first : option_and_then place_of (first_fault no_rows 0 rows) ≡ Some place
  pub there : slice_get rows place ≡ Some row
  pub of : tab ≡ (cell_of_row row).0
  pub named : digest.0 ≡ sha256 (cell_of_row row).1

-- A row that is named lacks its form, or fits no part of a book with the rows that were read
-- before it.
abbrev pub IsCause : Option Tables → LedgerFault → Type 0
IsCause told (Store (store.BadRow tab key)) =
    IsBadRow (LacksForm tab) told tab key ⊎ FitsNoPart tab key
IsCause told fault = Unit {0}

-- ---- the call

-- A call is answered by the rows, and commits the batches where it is accepted.
pub record ByRows {A : Type 0} (rows : ℕ) (through : Option ℕ)
    (refusal : Tables → Option LedgerFault) (batches : Tables → List (List Change))
    (IsAnswer : Tables → A → Type 0) (result : Result A LedgerFault)
    (before after : Known) : Type 0 where
  pub leaves : LeavesBy (commits_unless refusal batches) (ended of_ledger_fault result) before after
  pub reply : WhereTold before after (λ tables.
      IsReply of_ledger_fault (refusal tables) (IsAnswer tables) result)
  pub cause : IfErr result (IsCause after.tables)
  pub looked : LooksBy rows through before after

-- ---- an act

-- An act by the rows: what they say, if they have their form; why it is refused where they say
-- that; and what it changes.
pub record RowAct (A : Type 0) : Type 0 where
  pub said : Tables → Option A
  pub form : Tables → Option StoreFault
  pub refusal : A → Option LedgerFault
  pub changes : A → List Change

abbrev pub act_refusal : {A : Type 0} → RowAct A → Tables → Option LedgerFault
act_refusal act tables =
    option_or (option_map Store (act.form tables))
    (option_and_then act.refusal (act.said tables))

-- the batch, if there is one
abbrev pub batches_of : Option (List Change) → List (List Change)
batches_of None = []
batches_of (Some batch) = batch ∷ []

abbrev pub act_batches : {A : Type 0} → RowAct A → Tables → List (List Change)
act_batches act tables = batches_of (option_map act.changes (act.said tables))

-- The act is made by the rows.
abbrev pub ActsByRows : {A : Type 0} → ℕ → Option ℕ → RowAct A → Result (Unit {0}) LedgerFault
    → Known → Known → Type 0
ActsByRows rows through act =
    ByRows rows through (act_refusal act) (act_batches act) (λ tables done. Unit {0})
