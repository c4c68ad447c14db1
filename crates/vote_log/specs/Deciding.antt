-- What a log decides of a deal.
use Rattle.std.specs.Prelude.{ℕ, zero, suc, ◌+◌, ◌==◌, nat_lt, Bool, true, false, if◌then◌else◌, not, ◌&&◌, Option, Some, None, is_some, List, [], ◌∷◌, ◌++◌, length}
use Rattle.std.specs.List.{position_from}
use Rattle.std.specs.Str.{bytes_eq}
use Rattle.dh_base.specs.declared.id.Id.{Id}
use Rattle.dh_base.specs.declared.outcome.Outcome.{Outcome}
use Rattle.dh_base.specs.declared.outcome.Outcome.TheVariants.{Commit as ToCommit, Abort as ToAbort}
use Rattle.vote_log.specs.declared.decision.Decision.{Decision}
use Rattle.vote_log.specs.declared.kind.Kind.{Kind}
use Rattle.vote_log.specs.declared.kind.Kind.TheVariants.{Start, Commit, Abort}
use Rattle.vote_log.specs.Entry.{Entry}

abbrev pub starts : Kind → Bool
starts Start = true
starts Commit = false
starts Abort = false

abbrev pub commits : Kind → Bool
commits Start = false
commits Commit = true
commits Abort = false

abbrev pub aborts : Kind → Bool
aborts Start = false
aborts Commit = false
aborts Abort = true

-- the entry is of the deal
abbrev pub is_of : Id → Entry → Bool
is_of deal entry = bytes_eq deal.0 entry.deal.0

-- it starts the deal
abbrev pub is_start : Id → Entry → Bool
is_start deal entry = starts entry.kind && is_of deal entry

-- it is a commit of the deal by the index
abbrev pub is_commit : Id → ℕ → Entry → Bool
is_commit deal index entry = commits entry.kind && (is_of deal entry && index == entry.num)

-- a started deal: where its first start stands, of how many parties it is, and the entries since
pub record Started : Type 0 where
  pub at : ℕ
  pub parties : ℕ
  pub since : List Entry

-- the first start of the deal in a list that begins at a place
abbrev pub first_start_from : Id → ℕ → List Entry → Option Started
first_start_from deal place [] = None
first_start_from deal place (entry ∷ rest) =
    if is_start deal entry
    then Some (record { at = place; parties = entry.num; since = rest })
    else first_start_from deal (place + 1) rest

abbrev pub first_start : List Entry → Id → Option Started
first_start log deal = first_start_from deal 0 log

-- the start, with one more entry since
abbrev pub followed : Started → Entry → Started
followed start entry =
    record { at = start.at; parties = start.parties; since = start.since ++ entry ∷ [] }

-- where the index committed first since the start
abbrev pub commit_place : Id → Started → ℕ → Option ℕ
commit_place deal start index = position_from (is_commit deal index) (start.at + 1) start.since

abbrev pub has_committed : Id → Started → ℕ → Bool
has_committed deal start index = is_some (commit_place deal start index)

-- each number below n passes
abbrev pub all_below : (ℕ → Bool) → ℕ → Bool
all_below passes zero = true
all_below passes (suc n) = passes n && all_below passes n

abbrev pub all_committed : Id → Started → Bool
all_committed deal start = all_below (has_committed deal start) start.parties

-- the entry is a commit by which each index has one
abbrev pub completes : Id → Started → Entry → Bool
completes deal start entry =
    commits entry.kind && (is_of deal entry && all_committed deal (followed start entry))

-- the entry is an abort by an index of the deal, while some index has no commit
abbrev pub breaks_off : Id → Started → Entry → Bool
breaks_off deal start entry =
    aborts entry.kind
    && (is_of deal entry && (nat_lt entry.num start.parties && not (all_committed deal start)))

-- what an entry decides of a started deal
abbrev pub decided_by : Id → Started → Entry → Option Outcome
decided_by deal start entry =
    if completes deal start entry then Some ToCommit
    else (if breaks_off deal start entry then Some ToAbort else None)

-- the same after all entries before it
abbrev pub decided_after : Id → Option Started → Entry → Option Outcome
decided_after deal None entry = None
decided_after deal (Some start) entry = decided_by deal start entry

-- what is decided at a place, or else what comes later
abbrev pub at_place : ℕ → Option Outcome → Option Decision → Option Decision
at_place place None later = later
at_place place (Some outcome) later = Some (record { outcome = outcome; at = place })

-- the first decision in `rest`, which stands behind `front`
abbrev pub outcome_from : Id → List Entry → List Entry → Option Decision
outcome_from deal front [] = None
outcome_from deal front (entry ∷ rest) =
    at_place (length front) (decided_after deal (first_start front deal) entry)
    (outcome_from deal (front ++ entry ∷ []) rest)

-- what the log decides of the deal, and at which place
abbrev pub outcome_of : List Entry → Id → Option Decision
outcome_of log deal = outcome_from deal [] log
