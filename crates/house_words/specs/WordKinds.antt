-- Words that are one of two texts, numbers of 64 bits, and bytes.
use Rattle.std.specs.Prelude.{ℕ, ◌≡◌, ◌+◌, ◌*◌, if◌then◌else◌, List, [], ◌∷◌, Option, Some, None}
use Rattle.std.specs.Str.{bytes_eq}
use Rattle.line_text.specs.IdWords.{is_hex_digit, hex_value}
use Rattle.line_text.specs.Reading.{◌>>=◌, number_word}
use Rattle.line_text.specs.declared.number.Number.{Number}
use Rattle.line_text.specs.declared.number.Number.TheVariants.{Fits, Exceeds}

-- What a reader answers: the value that reading gives, and it leaves the words behind it; or
-- nothing.
abbrev pub Takes : {X : Type 0} → Option X → List (List ℕ) → Option (X × List (List ℕ)) → Type 0
Takes (Some x) new read = read ≡ Some (x, new)
Takes None new read = read ≡ None

-- what the one or the other text stands for
unfoldable pub one_of : {A : Type 0} → List ℕ → A → List ℕ → A → List (List ℕ)
    → Option (A × List (List ℕ))
one_of text x other y [] = None
one_of text x other y (word ∷ ws) =
    if bytes_eq word text then Some (x, ws)
    else if bytes_eq word other then Some (y, ws)
    else None

abbrev pub in_u64 : Number → Option ℕ
in_u64 (Fits n) = Some n
in_u64 Exceeds = None

-- a number, and its value where it fits 64 bits
unfoldable pub number_u64_word : List (List ℕ) → Option (Option ℕ × List (List ℕ))
number_u64_word ws = do
  number ← number_word ws
  Some (in_u64 number.0, number.1)

-- the value of a lower-case hexadecimal digit
abbrev pub hex_digit : ℕ → Option ℕ
hex_digit c = if is_hex_digit c then Some (hex_value c) else None

-- the bytes that pairs of digits stand for
abbrev pub hex_pairs : List ℕ → Option (List ℕ)
hex_pairs [] = Some []
hex_pairs (c ∷ []) = None
hex_pairs (c ∷ d ∷ cs) = do
  high ← hex_digit c
  low ← hex_digit d
  bytes ← hex_pairs cs
  Some ((16 * high + low) ∷ bytes)

-- the bytes of a word, which is one pair of digits at least
abbrev pub hex_bytes : List ℕ → Option (List ℕ)
hex_bytes [] = None
hex_bytes (c ∷ cs) = hex_pairs (c ∷ cs)
