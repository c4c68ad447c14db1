-- The limits of a deal's steps.
use Rattle.std.specs.Prelude.{ℕ}

-- the most steps of a deal
abbrev pub most_steps : ℕ
most_steps = 64

-- the most ledgers that the steps of a deal name
abbrev pub most_ledgers : ℕ
most_ledgers = 8
