-- Amounts of assets.
use Rattle.std.specs.Prelude.{ℕ, ◌-◌, ◌^◌}

-- the greatest amount of an asset, and the greatest sum of amounts
abbrev pub greatest_amount : ℕ
greatest_amount = 2 ^ 63 - 1
