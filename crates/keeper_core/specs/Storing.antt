-- What a call leaves of the maps of a store.
use Rattle.std.specs.Prelude.{◌≡◌, ℕ, ◌+◌, ◌-◌, ◌^◌, min, List, Option, Some, IfSome}
use Rattle.std.specs.FinMap.{empty}
use Rattle.keeper_core.specs.Tables.{Tables}

-- Where it is told, the map is empty: its keeper is out.
abbrev pub IsOut : Option Tables → Type 0
IsOut told = IfSome told (λ tables. tables ≡ empty)

-- the one map is handed on as the other
abbrev pub Hands : Option Tables → Option Tables → Type 0
Hands given taken = IfSome given (λ tables. taken ≡ Some tables)

-- every name has the map that it had
abbrev pub LeavesAll : (List ℕ → Option Tables) → (List ℕ → Option Tables) → Type 0
LeavesAll before after = (name : List ℕ) → after name ≡ before name

-- every other name has the map that it had
abbrev pub LeavesOthers : List ℕ → (List ℕ → Option Tables) → (List ℕ → Option Tables) → Type 0
LeavesOthers name before after = (other : List ℕ) → (other ≡ name → ⊥) → after other ≡ before other

-- where there was room there is room
abbrev pub KeepsRoom : (List ℕ → Type 0) → (List ℕ → Type 0) → Type 0
KeepsRoom before after = (name : List ℕ) → before name → after name

-- Two counts together. They are kept in 64 bits, so the sum stands still at the greatest value.
abbrev pub total_faults : ℕ → ℕ → ℕ
total_faults a b = min (2 ^ 64 - 1) (a + b)
