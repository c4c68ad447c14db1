-- What a batch of changes does to a map. A later change on the same cell wins.
use Rattle.std.specs.Prelude.{◌≡◌, List, [], ◌∷◌, ◌++◌, map, ℕ, Option, Some, None}
use Rattle.std.specs.List.{Contains, AllByRecursion}
use Rattle.std.specs.FinMap.{get, insert, remove}
use Rattle.keeper_core.specs.declared.change.Change.{Change}
use Rattle.keeper_core.specs.declared.change.Change.TheVariants.{Put, Delete}
use Rattle.keeper_core.specs.Tables.{Cell, Tables, rows_of}

-- the cell that is changed
abbrev pub cell_of : Change → Cell
cell_of (Put tab key val) = (tab, key)
cell_of (Delete tab key) = (tab, key)

-- what the cell has then
abbrev pub value_of : Change → Option (List ℕ)
value_of (Put tab key val) = Some val
value_of (Delete tab key) = None

abbrev pub after_change : Change → Tables → Tables
after_change (Put tab key val) tables = insert tables (tab, key) val
after_change (Delete tab key) tables = remove tables (tab, key)

-- the changes, one after another
abbrev pub after_batch : List Change → Tables → Tables
after_batch [] tables = tables
after_batch (change ∷ changes) tables = after_batch changes (after_change change tables)

-- no change is on the table
abbrev pub SparesTable : ℕ → List Change → Type 0
SparesTable tab changes = AllByRecursion (λ change. (cell_of change).0 ≡ tab → ⊥) changes

-- A change decides what its cell has, if no later one is on that cell.
abbrev pub LaterWins : Type 0
LaterWins = (before after : List Change) (change : Change) (tables : Tables) →
    (Contains (map cell_of after) (cell_of change) → ⊥) →
    get (after_batch (before ++ change ∷ after) tables) (cell_of change) ≡ value_of change

-- A cell that no change is on stays as it was.
abbrev pub OthersStay : Type 0
OthersStay = (changes : List Change) (cell : Cell) (tables : Tables) →
    (Contains (map cell_of changes) cell → ⊥) →
    get (after_batch changes tables) cell ≡ get tables cell

-- Changes on other tables leave the rows of a table.
abbrev pub OtherTablesStay : Type 0
OtherTablesStay = (tab : ℕ) (changes : List Change) (tables : Tables) → SparesTable tab changes →
    rows_of tab (after_batch changes tables) ≡ rows_of tab tables
