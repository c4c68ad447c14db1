-- The votes for which a log keeps room.
use Rattle.std.specs.Prelude.{ℕ, zero, suc, ◌+◌, Bool, if◌then◌else◌, not, Option, Some, None, is_some, List, [], ◌∷◌, filter, sum_by}
use Rattle.std.specs.Str.{bytes_eq}
use Rattle.dh_base.specs.declared.id.Id.{Id}
use Rattle.vote_log.specs.Entry.{Entry}
use Rattle.vote_log.specs.Deciding.{Started, starts, first_start, has_committed, outcome_of}

-- how many numbers below n pass
abbrev pub count_below : (ℕ → Bool) → ℕ → ℕ
count_below passes zero = 0
count_below passes (suc n) = (if passes n then 1 else 0) + count_below passes n

-- how many indices of a started deal have no commit
abbrev pub uncommitted : Id → Option Started → ℕ
uncommitted deal None = 0
uncommitted deal (Some start) =
    count_below (λ index. not (has_committed deal start index)) start.parties

-- what one deal is owed, while it is started and undecided
abbrev pub owed_by : List Entry → Id → ℕ
owed_by log deal =
    if is_some (outcome_of log deal) then 0 else uncommitted deal (first_start log deal)

-- the deals that are started, each once, in the order of their first starts
abbrev pub started_deals : List Entry → List Id
started_deals [] = []
started_deals (entry ∷ rest) =
    if starts entry.kind
    then entry.deal ∷ filter (λ deal. not (bytes_eq entry.deal.0 deal.0)) (started_deals rest)
    else started_deals rest

-- what all deals are owed
abbrev pub owed_of : List Entry → ℕ
owed_of log = sum_by (owed_by log) (started_deals log)
