-- The limits of a plain script.
use Rattle.std.specs.Prelude.{ℕ}

abbrev pub most_ledgers : ℕ
most_ledgers = 8

abbrev pub most_deals : ℕ
most_deals = 64

-- the most parties of a deal
abbrev pub most_members : ℕ
most_members = 16

-- the most parties in all
abbrev pub most_parties : ℕ
most_parties = 256

-- the most opening rows of a script
abbrev pub most_rows : ℕ
most_rows = 1024
