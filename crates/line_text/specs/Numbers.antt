-- Numbers: decimal digits without sign, and with no zero in front, save the number 0 itself.
use Rattle.std.specs.Prelude.{ℕ, ◌^◌, Bool, false, not, ◌&&◌, ◌==◌, nat_lt, if◌then◌else◌, List, [], ◌∷◌, Option, Some, None}
use Rattle.std.specs.Char.{is_ascii_digit}
use Rattle.std.specs.Str.{all_ascii_digits}
use Rattle.std.specs.Str.Parse.{digits_value}
use Rattle.line_text.specs.declared.number.Number.{Number}
use Rattle.line_text.specs.declared.number.Number.TheVariants.{Fits, Exceeds}

abbrev pub is_number : List ℕ → Bool
is_number [] = false
is_number (c ∷ []) = is_ascii_digit c
is_number (c ∷ d ∷ cs) = not (c == 48) && all_ascii_digits (c ∷ d ∷ cs)

-- the number that a word is, however large
abbrev pub number_of : List ℕ → Option ℕ
number_of word = if is_number word then Some (digits_value 10 word) else None

-- a number as 64 bits tell it
abbrev pub in_64_bits : ℕ → Number
in_64_bits n = if nat_lt n (2 ^ 64) then Fits n else Exceeds

-- a number where it fits 32 bits
abbrev pub in_32_bits : ℕ → Option ℕ
in_32_bits n = if nat_lt n (2 ^ 32) then Some n else None

-- a number where it is an amount, which is at most 2^63 - 1
abbrev pub amount_of : ℕ → Option ℕ
amount_of n = if nat_lt n (2 ^ 63) then Some n else None
