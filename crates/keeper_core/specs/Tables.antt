-- What a keeper keeps: one finite map from a table and a key to bytes.
use Rattle.std.specs.Prelude.{ℕ, ◌==◌, List, map}
use Rattle.std.specs.List.{filter}
use Rattle.std.specs.Ordering.{nat_cmp, ordering_then}
use Rattle.std.specs.declared.cmp.Ordering.{Ordering}
use Rattle.std.specs.Cmp.Lexicographic.{slice_cmp}
use Rattle.std.specs.Coded.{Coded, coded×, coded_ℕ, coded_list}
use Rattle.std.specs.FinMap.{FinMap, entries, code}
use Rattle.keeper_core.specs.declared.row.Row.{Row}

-- a place for bytes: a table and a key
abbrev pub Cell : Type 0
Cell = ℕ × List ℕ

-- by table, and then by the bytes of the key
abbrev pub cell_cmp : Cell → Cell → Ordering
cell_cmp a b = ordering_then (nat_cmp a.0 b.0) (slice_cmp nat_cmp a.1 b.1)

abbrev pub Tables : Type 0
Tables = FinMap cell_cmp (List ℕ)

abbrev pub tables_code : Coded Tables
tables_code = code (coded× coded_ℕ (coded_list coded_ℕ)) (coded_list coded_ℕ)

-- the rows of a table, in ascending order of their keys
abbrev pub rows_of : ℕ → Tables → List Row
rows_of tab tables = map (λ e. record { key = e.0.1; val = e.1 })
    (filter (λ e. e.0.0 == tab) (entries tables))
