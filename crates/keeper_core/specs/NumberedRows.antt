-- Tables whose keys are numbers, under which values were put one after another.
use Rattle.std.specs.Prelude.{ℕ, ◌≡◌, ◌+◌, ◌<◌, ◌≤◌, ◌^◌, suc, List, [], ◌∷◌, ◌++◌, length, slice_get}
use Rattle.std.specs.Int.{Width, byte_len, to_be_bytes}
use Rattle.std.specs.FinMap.{get, insert}
use Rattle.keeper_core.specs.declared.row.Row.{Row}
use Rattle.keeper_core.specs.Tables.{Tables, rows_of}

-- the rows of values, under the numbers from the first one on
abbrev pub numbered_rows : Width → ℕ → List (List ℕ) → List Row
numbered_rows width first [] = []
numbered_rows width first (val ∷ vals) =
    record { key = to_be_bytes width first; val = val } ∷ numbered_rows width (suc first) vals

-- The rows of the table are these values under their numbers, and no others.
abbrev pub IsNumbered : Width → ℕ → ℕ → List (List ℕ) → Tables → Type 0
IsNumbered width tab first vals tables = rows_of tab tables ≡ numbered_rows width first vals

-- A value that is put under the next number is numbered on.
abbrev pub NumbersOn : Type 0
NumbersOn = (width : Width) (tab first : ℕ) (vals : List (List ℕ)) (val : List ℕ)
    (tables : Tables) →
    IsNumbered width tab first vals tables → first + length vals < 256 ^ byte_len width →
    IsNumbered width tab first (vals ++ val ∷ [])
    (insert tables (tab, to_be_bytes width (first + length vals)) val)

-- Under each number stands its value, and under the others none.
abbrev pub StandsUnderNumber : Type 0
StandsUnderNumber = (width : Width) (tab first k : ℕ) (vals : List (List ℕ)) (tables : Tables) →
    IsNumbered width tab first vals tables → first + length vals ≤ 256 ^ byte_len width →
    first + k < 256 ^ byte_len width →
    get tables (tab, to_be_bytes width (first + k)) ≡ slice_get vals k

-- A table is that of one list of values at most.
abbrev pub OneNumbering : Type 0
OneNumbering = (width : Width) (tab first : ℕ) (vals others : List (List ℕ)) (tables : Tables) →
    IsNumbered width tab first vals tables → IsNumbered width tab first others tables →
    vals ≡ others
