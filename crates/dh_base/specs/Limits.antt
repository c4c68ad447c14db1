-- Limits that more than one crate keeps to.
use Rattle.std.specs.Prelude.{ℕ}

-- the most parties of a deal
abbrev pub most_parties : ℕ
most_parties = 16
