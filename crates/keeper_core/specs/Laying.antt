-- How slots lie in memory: table by table, each a sorted map from keys to slots.
use Rattle.std.specs.Prelude.{◌≡◌, ℕ, zero, suc, List, [], ◌∷◌, ◌++◌, map, Option, None}
use Rattle.std.specs.Option.{option_map}
use Rattle.std.specs.declared.vec.Vec.{Vec}
use Rattle.std.specs.FinMap.{entries, get}
use Rattle.keeper_core.specs.Tables.{Cell}
use Rattle.keeper_core.specs.Slots.{Slot, TableSlots}

-- the entries of a map, without where their bytes lie
abbrev pub bare : {A : Type 0} → List (Vec ℕ A × Option (Vec ℕ A)) → List (List ℕ × Slot)
bare es = map (λ e. (e.0.items, option_map (λ v. v.items) e.1)) es

-- the slots of the tables from that number on, each at its cell
abbrev pub numbered : ℕ → List TableSlots → List (Cell × Slot)
numbered tab [] = []
numbered tab (slots ∷ tables) =
    map (λ e. ((tab, e.0), e.1)) (entries slots) ++ numbered (suc tab) tables

-- the slot of a key in the table of that number
abbrev pub slot_in : List TableSlots → ℕ → List ℕ → Option Slot
slot_in [] tab key = None
slot_in (slots ∷ tables) zero key = get slots key
slot_in (slots ∷ tables) (suc tab) key = slot_in tables tab key

-- each cell has the same slot in both
abbrev pub HaveSameSlots : List TableSlots → List TableSlots → Type 0
HaveSameSlots before after = (tab : ℕ) (key : List ℕ) →
    slot_in after tab key ≡ slot_in before tab key
