-- Reading a line word by word: each reading gives a value and the words behind it, or nothing.
use Rattle.std.specs.Prelude.{ℕ, ◌≡◌, Bool, true, false, if◌then◌else◌, List, [], ◌∷◌, Option, Some, None}
use Rattle.dh_base.specs.Names.{is_name}
use Rattle.dh_base.specs.declared.id.Id.{Id}
use Rattle.line_text.specs.declared.number.Number.{Number}
use Rattle.line_text.specs.Numbers.{number_of, in_64_bits, in_32_bits, amount_of}
use Rattle.line_text.specs.IdWords.{id_of}

infixl 10 ◌>>=◌
abbrev pub ◌>>=◌ : {A B : Type 0} → Option A → (A → Option B) → Option B
None >>= f = None
(Some x) >>= f = f x

abbrev pub first_word : List (List ℕ) → Option (List ℕ × List (List ℕ))
first_word [] = None
first_word (word ∷ words) = Some (word, words)

unfoldable pub name_word : List (List ℕ) → Option (List ℕ × List (List ℕ))
name_word words = do
  word ← first_word words
  if is_name word.0 then Some word else None

unfoldable pub number_word : List (List ℕ) → Option (Number × List (List ℕ))
number_word words = do
  word ← first_word words
  n ← number_of word.0
  Some (in_64_bits n, word.1)

-- a number, and its value where it fits 32 bits
unfoldable pub number_u32_word : List (List ℕ) → Option (Option ℕ × List (List ℕ))
number_u32_word words = do
  word ← first_word words
  n ← number_of word.0
  Some (in_32_bits n, word.1)

unfoldable pub amount_word : List (List ℕ) → Option (ℕ × List (List ℕ))
amount_word words = do
  word ← first_word words
  n ← number_of word.0
  amount ← amount_of n
  Some (amount, word.1)

unfoldable pub id_word : List (List ℕ) → Option (Id × List (List ℕ))
id_word words = do
  word ← first_word words
  id ← id_of word.0
  Some (id, word.1)

-- what was read, where nothing follows
abbrev pub ended : {A : Type 0} → List (List ℕ) → A → Option A
ended [] read = Some read
ended (word ∷ words) read = None

-- no word is left
abbrev pub is_done : List (List ℕ) → Bool
is_done [] = true
is_done (word ∷ words) = false

-- What a reader answers: the value that reading gives, and it leaves the words behind it; or
-- nothing, and then all words are left.
abbrev pub Reads : {X Y : Type 0} → (X → Y) → Option X → List (List ℕ) → List (List ℕ)
    → Option (Y × List (List ℕ)) → Type 0
Reads view (Some x) old new read = read ≡ Some (view x, new)
Reads view None old new read = (read ≡ None) × (new ≡ old)
