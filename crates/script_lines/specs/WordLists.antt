-- Words at the end of a line, and numbers that may exceed their field.
use Rattle.std.specs.Prelude.{ℕ, ◌≡◌, ◌≤◌, ◌<◌, ◌^◌, if◌then◌else◌, List, Option, Some, None}
use Rattle.std.specs.List.{list_all}
use Rattle.std.specs.Fmt.{decimal}
use Rattle.dh_base.specs.Names.{is_name}
use Rattle.line_text.specs.Numbers.{number_of}

-- all the words, where each is a name
abbrev pub names_only : List (List ℕ) → Option (List (List ℕ))
names_only ws = if list_all is_name ws then Some ws else None

-- The word is this number of 32 bits in decimal. A number that exceeds its field is any of 2 ^ 32
-- or more.
abbrev pub SpellsNumber : Option ℕ → List ℕ → Type 0
SpellsNumber (Some n) word = (n < 2 ^ 32) × (word ≡ decimal n)
SpellsNumber None word = (n : ℕ) × (2 ^ 32 ≤ n) × (number_of word ≡ Some n)
