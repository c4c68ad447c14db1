-- Slots with room for changes.
use Rattle.std.specs.Prelude.{◌≡◌, true, List, IsTrue}
use Rattle.std.specs.List.{AllByRecursion}
use Rattle.std.specs.FinMap.{contains_key}
use Rattle.keeper_core.specs.declared.change.Change.{Change}
use Rattle.keeper_core.specs.declared.change.Change.TheVariants.{Put, Delete}
use Rattle.keeper_core.specs.Tables.{Cell}
use Rattle.keeper_core.specs.Slots.{Slots}

-- the key has a slot, if it gets bytes
abbrev pub HasRoom : Slots → Change → Type 0
HasRoom slots (Put tab key val) = IsTrue (contains_key slots (tab, key))
HasRoom slots (Delete tab key) = Unit {0}

abbrev pub HaveRoom : Slots → List Change → Type 0
HaveRoom slots changes = AllByRecursion (HasRoom slots) changes

-- whatever has a slot keeps one
abbrev pub KeepsSlots : Slots → Slots → Type 0
KeepsSlots before after = (cell : Cell) → contains_key before cell ≡ true →
    contains_key after cell ≡ true
