-- What the rows of a table are.
use Rattle.std.specs.Prelude.{◌≡◌, ◌↔◌, ℕ, map, Some}
use Rattle.std.specs.List.{Contains}
use Rattle.std.specs.List.Sorted.{IsStrictlySortedBy}
use Rattle.std.specs.Ordering.{nat_cmp}
use Rattle.std.specs.Cmp.Lexicographic.{slice_cmp}
use Rattle.std.specs.FinMap.{get}
use Rattle.keeper_core.specs.declared.row.Row.{Row}
use Rattle.keeper_core.specs.Tables.{Tables, rows_of}

-- Each key is before those behind it, by its bytes.
abbrev pub ScansAscend : Type 0
ScansAscend = (tab : ℕ) (tables : Tables) →
    IsStrictlySortedBy (slice_cmp nat_cmp) (map (λ row. row.key) (rows_of tab tables))

-- A row is listed exactly where the map has its bytes at its key.
abbrev pub ScansListTheMap : Type 0
ScansListTheMap = (tab : ℕ) (row : Row) (tables : Tables) →
    Contains (rows_of tab tables) row ↔ (get tables (tab, row.key) ≡ Some row.val)
