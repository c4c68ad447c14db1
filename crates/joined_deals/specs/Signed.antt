-- Which of the texts of joined deals are signed.
use Rattle.std.specs.Prelude.{ℕ, Bool, false, not, ◌||◌, if◌then◌else◌, List, Option, Some, None}
use Rattle.std.specs.List.{list_any, count_by, sum_by, prefix_len}
use Rattle.std.specs.Str.{bytes_eq}
use Rattle.dh_base.specs.declared.outcome.Outcome.TheVariants.{Commit, Abort}
use Rattle.joined_deals.specs.DealTexts.{JoinedTold, plan_texts, vote_text, texts_of}

-- the text is one of those that are signed
abbrev pub is_signed : List (List ℕ) → List ℕ → Bool
is_signed signed text = list_any (λ other. bytes_eq other text) signed

-- a key has signed the text, where it has signed this one
abbrev pub signs_at : List ℕ → Option (List ℕ) → Bool
signs_at text None = false
signs_at text (Some other) = bytes_eq other text

abbrev pub is_unsigned : List (List ℕ) → List ℕ → Bool
is_unsigned signed text = not (is_signed signed text)

-- one for a text that is not signed, and nothing for one that is
abbrev pub weight : List (List ℕ) → List ℕ → ℕ
weight signed text = if is_unsigned signed text then 1 else 0

-- how many texts of the deal are not signed yet
abbrev pub unsigned_of : List (List ℕ) → JoinedTold → ℕ
unsigned_of signed joined = count_by (is_unsigned signed) (texts_of joined)

-- how many of all these deals
abbrev pub unsigned_in : List (List ℕ) → List JoinedTold → ℕ
unsigned_in signed deals = sum_by (unsigned_of signed) deals

-- Acts are signed in the order of the plan, so those that are signed are its first ones.
abbrev pub issued_of : List (List ℕ) → JoinedTold → ℕ
issued_of signed joined = prefix_len (is_signed signed) (plan_texts joined)

-- how many acts of the plan are not signed yet
abbrev pub acts_open : List (List ℕ) → JoinedTold → ℕ
acts_open signed joined = count_by (is_unsigned signed) (plan_texts joined)

-- a vote of the deal is signed
abbrev pub has_voted : List (List ℕ) → JoinedTold → Bool
has_voted signed joined =
    is_signed signed (vote_text joined Commit) || is_signed signed (vote_text joined Abort)
