-- Changes on other tables leave the rows of a table.
use Rattle.std.proofs.Common.{◌≡◌, ◌⊎◌, ℕ, zero, suc, List, [], ◌∷◌, map, Some, sym, ap, ◌∙◌, inl, inr, arith}
use Rattle.std.specs.List.{Contains}
use Rattle.std.specs.FinMap.{get}
use Rattle.keeper_core.specs.declared.change.Change.{Change}
use Rattle.keeper_core.specs.declared.row.Row.{Row}
use Rattle.keeper_core.specs.Tables.{Cell, Tables, rows_of}
use Rattle.keeper_core.specs.Batches.{cell_of, after_batch, SparesTable, OtherTablesStay}
use Rattle.keeper_core.proofs.Batched.{others_stay}
use Rattle.keeper_core.proofs.Scanned.{scans_ascend, scans_list_the_map}
use Rattle.keeper_core.proofs.OneListing.{is_the_scan}

first_or_later : (first cell : Cell) (rest : List Cell) → Contains (first ∷ rest) cell → (first ≡ cell) ⊎ Contains rest cell
first_or_later first cell rest (zero, lt, is) = inl is
first_or_later first cell rest (suc k, lt, is) = inr (k, omega arith, is)

none_there : (cell : Cell) → Contains [] cell → ⊥
none_there cell (k, lt, is) = omega arith

-- a cell of the table is not among those that are changed
spared_cell : (tab : ℕ) (key : List ℕ) (changes : List Change) → SparesTable tab changes →
    Contains (map cell_of changes) (tab, key) → ⊥
spared_cell tab key [] spares there = none_there (tab, key) there
spared_cell tab key (change ∷ changes) spares there =
    elim (first_or_later (cell_of change) (tab, key) (map cell_of changes) there) [
      | inl is ↦ spares.0 (ap (λ (cell : Cell). cell.0) is)
      | inr later ↦ spared_cell tab key changes spares.1 later
    ]

pub other_tables_stay : OtherTablesStay
other_tables_stay tab changes tables spares =
    let same = λ (key : List ℕ). others_stay changes (tab, key) tables (spared_cell tab key changes spares) in
    is_the_scan tab (after_batch changes tables) (rows_of tab tables) (scans_ascend tab tables)
    (λ row is. (scans_list_the_map tab row tables).1 (sym (same row.key) ∙ is))
    (λ row there. same row.key ∙ (scans_list_the_map tab row tables).0 there)
