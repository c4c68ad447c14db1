-- The first fault of a line, where its rules are asked one after another.
use Rattle.std.specs.Prelude.{Bool, if◌then◌else◌, Option, Some}

-- this fault where its rule is broken, or else what the rules behind it find
abbrev pub broken_if : {F : Type 0} → Bool → F → Option F → Option F
broken_if broken fault other = if broken then Some fault else other
