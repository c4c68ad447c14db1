-- Counts of faults. A call of the outside answers `Failed` only where its count rose.
use Rattle.std.specs.Prelude.{ℕ, ◌-◌, ◌^◌, ◌<◌}

-- A count that is kept in 64 bits stands still at its greatest value, so there it counts as risen.
abbrev pub HasRisen : ℕ → ℕ → Type 0
HasRisen before after = after < 2 ^ 64 - 1 → before < after
