-- What a change of a ledger's rows leaves at each cell.
use Rattle.std.proofs.Common.{◌≡◌, ℕ, ◌==◌, ◌&&◌, Bool, true, false, cond, if◌then◌else◌, List, Some, None, refl, sym, ◌∙◌}
use Rattle.std.specs.Ordering.{eq_by_cmp}
use Rattle.std.specs.FinMap.{get, get-insert, get-remove}
use Rattle.dh_base.specs.declared.id.Id.{Id}
use Rattle.keeper_core.specs.declared.change.Change.{Change}
use Rattle.keeper_core.specs.declared.change.Change.TheVariants.{Put, Delete}
use Rattle.keeper_core.specs.Tables.{Cell, cell_cmp, Tables, rows_of}
use Rattle.keeper_core.specs.Batches.{cell_of, value_of, after_change}
use Rattle.keeper_core.proofs.Numbered.{cells_total, exact_cells, equal_of}
use Rattle.keeper_core.proofs.Scanned.{scans_ascend, scans_list_the_map}
use Rattle.keeper_core.proofs.OneListing.{is_the_scan}
use Rattle.ledger_rows.specs.declared.hold.Hold.{Hold}
use Rattle.ledger_rows.specs.RowKeys.{free_tab, hold_tab, moves_tab, free_key, hold_key, moves_key}
use Rattle.ledger_rows.specs.RowValues.{free_text, hold_text, moves_text}
use Rattle.ledger_rows.specs.RowChanges.{free_change, hold_change, moves_change}
use Rattle.ledger_rows.specs.LedgerTables.{free_value, hold_value, moves_value}

-- the same cell, by its place in the order
abbrev pub same_cell : Cell → Cell → Bool
same_cell cell other = eq_by_cmp cell_cmp cell other

pub cell_is : (cell other : Cell) → same_cell cell other ≡ true → cell ≡ other
cell_is cell other e = exact_cells cell other (equal_of _ e)

pub change_at : (change : Change) (tables : Tables) (cell : Cell) → get (after_change change tables) cell ≡ cond (same_cell cell (cell_of change)) (value_of change) (get tables cell)
change_at (Put tab key val) tables cell = get-insert cells_total tables (tab, key) val cell
change_at (Delete tab key) tables cell = get-remove cells_total tables (tab, key) cell

-- a test decides whether the row is deleted or put
deletes_or_puts : (tab : ℕ) (none : Bool) (key val : List ℕ) (tables : Tables) (cell : Cell) → get (after_change (if none then Delete tab key else Put tab key val) tables) cell ≡ cond (same_cell cell (tab, key)) (if none then None else Some val) (get tables cell)
deletes_or_puts tab true key val tables cell = get-remove cells_total tables (tab, key) cell
deletes_or_puts tab false key val tables cell = get-insert cells_total tables (tab, key) val cell

pub free_at : (p : Id) (x : List ℕ) (n : ℕ) (tables : Tables) (cell : Cell) → get (after_change (free_change p x n) tables) cell ≡ cond (same_cell cell (free_tab, free_key p x)) (free_value n) (get tables cell)
free_at p x n tables cell = deletes_or_puts free_tab (n == 0) (free_key p x) (free_text (record { amount = n })) tables cell

pub hold_at : (d p : Id) (x : List ℕ) (hold : Hold) (tables : Tables) (cell : Cell) → get (after_change (hold_change d p x hold) tables) cell ≡ cond (same_cell cell (hold_tab, hold_key d p x)) (hold_value hold) (get tables cell)
hold_at d p x hold tables cell = deletes_or_puts hold_tab ((hold.commit == 0) && (hold.abort == 0)) (hold_key d p x) (hold_text hold) tables cell

pub moves_at : (d p : Id) (n : ℕ) (tables : Tables) (cell : Cell) → get (after_change (moves_change d p n) tables) cell ≡ cond (same_cell cell (moves_tab, moves_key d p)) (moves_value n) (get tables cell)
moves_at d p n tables cell = deletes_or_puts moves_tab (n == 0) (moves_key d p) (moves_text (record { count = n })) tables cell

-- one of two values, as a test says
pub picked : {T : Type 0} (here : Bool) (one other goal : T) → (here ≡ true → one ≡ goal) → (here ≡ false → other ≡ goal) → cond here one other ≡ goal
picked true one other goal is else_is = is refl
picked false one other goal is else_is = else_is refl

-- a table with the same rows at all keys is listed as the same
pub same_rows : (tab : ℕ) (before after : Tables) → ((key : List ℕ) → get after (tab, key) ≡ get before (tab, key)) → rows_of tab after ≡ rows_of tab before
same_rows tab before after same =
    is_the_scan tab after (rows_of tab before) (scans_ascend tab before)
    (λ row found. (scans_list_the_map tab row before).1 (sym (same row.key) ∙ found))
    (λ row there. same row.key ∙ (scans_list_the_map tab row before).0 there)
