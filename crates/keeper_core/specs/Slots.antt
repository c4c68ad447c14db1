-- How a keeper in memory holds its map: in slots, of which some are empty. A slot is room for a
-- row.
use Rattle.std.specs.Prelude.{ℕ, if◌then◌else◌, List, [], ◌∷◌, Option, Some, None}
use Rattle.std.specs.declared.cmp.Ordering.{Ordering}
use Rattle.std.specs.Ordering.{nat_cmp}
use Rattle.std.specs.Cmp.Lexicographic.{slice_cmp}
use Rattle.std.specs.FinMap.{FinMap, entries, contains_key, insert, from_entries}
use Rattle.keeper_core.specs.declared.row.Row.{Row}
use Rattle.keeper_core.specs.Tables.{Cell, cell_cmp, Tables}

-- what a slot holds
abbrev pub Slot : Type 0
Slot = Option (List ℕ)

-- the slots of one table
abbrev pub TableSlots : Type 0
TableSlots = FinMap (slice_cmp nat_cmp) Slot

-- the slots of all tables
abbrev pub Slots : Type 0
Slots = FinMap cell_cmp Slot

-- what stands in the slot, if there is one
abbrev pub held : Option Slot → Slot
held None = None
held (Some slot) = slot

-- the slots with one for this key, empty if it is new
abbrev pub with_room : {K : Type 0} {R : K → K → Ordering} → FinMap R Slot → K → FinMap R Slot
with_room slots key = if contains_key slots key then slots else insert slots key None

-- the rows that stand in slots
abbrev pub rows_in : List (List ℕ × Slot) → List Row
rows_in [] = []
rows_in ((key, None) ∷ slots) = rows_in slots
rows_in ((key, Some val) ∷ slots) = record { key = key; val = val } ∷ rows_in slots

-- the cells whose slots are full, with what they hold
abbrev pub full_in : List (Cell × Slot) → List (Cell × List ℕ)
full_in [] = []
full_in ((cell, None) ∷ slots) = full_in slots
full_in ((cell, Some val) ∷ slots) = (cell, val) ∷ full_in slots

-- the map of what stands in slots
abbrev pub filled : Slots → Tables
filled slots = from_entries (full_in (entries slots))
