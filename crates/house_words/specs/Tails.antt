-- What stands behind the words with which lines begin: whole tails that several lines share.
use Rattle.std.specs.Prelude.{ℕ, nat_le, if◌then◌else◌, List, [], ◌∷◌, length, Option, Some, None, codes}
use Rattle.dh_base.specs.declared.outcome.Outcome.{Outcome}
use Rattle.dh_base.specs.declared.outcome.Outcome.TheVariants.{Commit, Abort}
use Rattle.line_text.specs.Reading.{◌>>=◌, name_word, amount_word, number_u32_word, ended}
use Rattle.script_lines.specs.WordLists.{names_only}
use Rattle.house_words.specs.WordKinds.{one_of}

unfoldable pub one_name : List (List ℕ) → Option (List ℕ)
one_name ws = do
  name ← name_word ws
  ended name.1 name.0

unfoldable pub two_names : List (List ℕ) → Option (List ℕ × List ℕ)
two_names ws = do
  first ← name_word ws
  second ← name_word first.1
  ended second.1 (first.0, second.0)

unfoldable pub three_names : List (List ℕ) → Option (List ℕ × List ℕ × List ℕ)
three_names ws = do
  first ← name_word ws
  second ← name_word first.1
  third ← name_word second.1
  ended third.1 (first.0, second.0, third.0)

unfoldable pub three_names_amount : List (List ℕ) → Option (List ℕ × List ℕ × List ℕ × ℕ)
three_names_amount ws = do
  first ← name_word ws
  second ← name_word first.1
  third ← name_word second.1
  amount ← amount_word third.1
  ended amount.1 (first.0, second.0, third.0, amount.0)

-- two names and a number, and the words behind them
unfoldable pub two_names_number_then : List (List ℕ)
    → Option ((List ℕ × List ℕ × Option ℕ) × List (List ℕ))
two_names_number_then ws = do
  first ← name_word ws
  second ← name_word first.1
  number ← number_u32_word second.1
  Some ((first.0, second.0, number.0), number.1)

unfoldable pub two_names_number : List (List ℕ) → Option (List ℕ × List ℕ × Option ℕ)
two_names_number ws = do
  head ← two_names_number_then ws
  ended head.1 head.0

unfoldable pub name_number_name : List (List ℕ) → Option (List ℕ × Option ℕ × List ℕ)
name_number_name ws = do
  first ← name_word ws
  number ← number_u32_word first.1
  second ← name_word number.1
  ended second.1 (first.0, number.0, second.0)

unfoldable pub two_names_number_name : List (List ℕ)
    → Option (List ℕ × List ℕ × Option ℕ × List ℕ)
two_names_number_name ws = do
  head ← two_names_number_then ws
  last ← name_word head.1
  ended last.1 (head.0.0, head.0.1, head.0.2, last.0)

-- the outcome of a deal by the first records of a list
unfoldable pub three_names_number_outcome : List (List ℕ)
    → Option (List ℕ × List ℕ × List ℕ × Option ℕ × Outcome)
three_names_number_outcome ws = do
  first ← name_word ws
  second ← name_word first.1
  third ← name_word second.1
  number ← number_u32_word third.1
  outcome ← one_of (codes "commit") Commit (codes "abort") Abort number.1
  ended outcome.1 (first.0, second.0, third.0, number.0, outcome.0)

-- a name and two numbers, and the words behind them
unfoldable pub name_two_numbers : List (List ℕ)
    → Option ((List ℕ × Option ℕ × Option ℕ) × List (List ℕ))
name_two_numbers ws = do
  name ← name_word ws
  first ← number_u32_word name.1
  second ← number_u32_word first.1
  Some ((name.0, first.0, second.0), second.1)

-- as many names at least
unfoldable pub names_from : ℕ → List (List ℕ) → Option (List (List ℕ))
names_from least ws = do
  names ← names_only ws
  if nat_le least (length names) then Some names else None

-- a name, or nothing
abbrev pub name_if_any : List (List ℕ) → Option (Option (List ℕ))
name_if_any [] = Some None
name_if_any (word ∷ ws) = one_name (word ∷ ws) >>= λ name. Some (Some name)
