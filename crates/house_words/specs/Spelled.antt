-- Which word of a line spells which value.
use Rattle.std.specs.Prelude.{ℕ, ◌≡◌, ◌≤◌, ◌<◌, ◌^◌, IsTrue, List, [], ◌∷◌, length, Option, Some, None}
use Rattle.std.specs.List.{AllByRecursion}
use Rattle.std.specs.Fmt.{decimal}
use Rattle.dh_base.specs.Names.{is_name}
use Rattle.dh_base.specs.Spelled.{hex_text}
use Rattle.line_text.specs.Numbers.{number_of}
use Rattle.script_lines.specs.WordLists.{SpellsNumber}

-- A word of a line: a text as it stands, a name, a number of 32 or of 64 bits, which is none where
-- it exceeds them, an amount, or bytes.
pub data LineWord : Type 0 where
  Fixed : (text : List ℕ) → LineWord
  Named : (name : List ℕ) → LineWord
  Number : (number : Option ℕ) → LineWord
  LongNumber : (number : Option ℕ) → LineWord
  Amount : (amount : ℕ) → LineWord
  Hexadecimal : (bytes : List ℕ) → LineWord

-- The word is this number of 64 bits in decimal. A number that exceeds its field is any of 2 ^ 64
-- or more.
abbrev pub SpellsLongNumber : Option ℕ → List ℕ → Type 0
SpellsLongNumber (Some n) word = (n < 2 ^ 64) × (word ≡ decimal n)
SpellsLongNumber None word = (n : ℕ) × (2 ^ 64 ≤ n) × (number_of word ≡ Some n)

abbrev pub SpellsWord : LineWord → List ℕ → Type 0
SpellsWord (Fixed text) word = word ≡ text
SpellsWord (Named name) word = IsTrue (is_name name) × (word ≡ name)
SpellsWord (Number number) word = SpellsNumber number word
SpellsWord (LongNumber number) word = SpellsLongNumber number word
SpellsWord (Amount amount) word = (amount < 2 ^ 63) × (word ≡ decimal amount)
SpellsWord (Hexadecimal bytes) word =
    AllByRecursion (λ byte. byte < 256) bytes × (0 < length bytes) × (word ≡ hex_text bytes)

-- each word spells its value
abbrev pub SpellWords : List LineWord → List (List ℕ) → Type 0
SpellWords [] [] = Unit {0}
SpellWords [] (word ∷ words) = ⊥
SpellWords (value ∷ values) [] = ⊥
SpellWords (value ∷ values) (word ∷ words) = SpellsWord value word × SpellWords values words

abbrev pub named_if_any : Option (List ℕ) → List LineWord
named_if_any None = []
named_if_any (Some name) = Named name ∷ []
