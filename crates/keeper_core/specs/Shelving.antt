-- How the maps of a store lie in memory: each under its name.
use Rattle.std.specs.Prelude.{ℕ, List, map}
use Rattle.std.specs.String.{string_bytes}
use Rattle.std.specs.declared.string.String.{String}
use Rattle.keeper_core.specs.Tables.{Tables}
use Rattle.keeper_core.specs.Slots.{Slots, filled}

-- the maps under the bytes of their names
abbrev pub shelved : {A : Type 0} → List (String A × Slots) → List (List ℕ × Tables)
shelved es = map (λ e. (string_bytes e.0, filled e.1)) es
