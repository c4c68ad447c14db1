-- What a keeper answers by its map.
use Rattle.std.specs.Prelude.{◌≡◌, ℕ, List, length, Option, IfSome, Result, Ok, Err}
use Rattle.std.specs.FinMap.{get}
use Rattle.keeper_core.specs.declared.row.Row.{Row}
use Rattle.keeper_core.specs.Tables.{Tables, rows_of}

-- what the map has there, where it is told after the call
abbrev pub AnswersByMap : Option Tables → ℕ → List ℕ → Option (List ℕ) → Type 0
AnswersByMap told tab key val = IfSome told (λ tables. val ≡ get tables (tab, key))

-- the rows that the map has in the table, where it is told after the call
abbrev pub ListsTable : Option Tables → ℕ → List Row → Type 0
ListsTable told tab rows = IfSome told (λ tables. rows ≡ rows_of tab tables)

-- how many rows a call gives
abbrev pub rows_given : {E : Type 0} → Result (List Row) E → ℕ
rows_given (Ok rows) = length rows
rows_given (Err fault) = 0
