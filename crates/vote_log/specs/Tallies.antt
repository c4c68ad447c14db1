-- What the code counts of one deal.
use Rattle.std.specs.Prelude.{ℕ, ◌≡◌, ◌≤◌, ◌<◌, Bool, if◌then◌else◌, not, ◌&&◌, nat_lt, ◌+◌, Option, Some, None, Result, Ok, Err, is_some, List, length, replicate, slice_index_or, slice_set}
use Rattle.dh_base.specs.declared.id.Id.{Id}
use Rattle.dh_base.specs.declared.outcome.Outcome.{Outcome}
use Rattle.dh_base.specs.declared.outcome.Outcome.TheVariants.{Commit as ToCommit, Abort as ToAbort}
use Rattle.dh_base.specs.Limits.{most_parties}
use Rattle.vote_log.specs.declared.decision.Decision.{Decision}
use Rattle.vote_log.specs.declared.kind.Kind.{Kind}
use Rattle.vote_log.specs.declared.kind.Kind.TheVariants.{Start, Commit, Abort}
use Rattle.vote_log.specs.declared.log_fault.LogFault.{LogFault}
use Rattle.vote_log.specs.declared.log_fault.LogFault.TheVariants.{StartedAlready, LogFull, NotStarted, Decided}
use Rattle.vote_log.specs.declared.tally.Tally.{Tally}
use Rattle.vote_log.specs.Entry.{Entry}
use Rattle.vote_log.specs.Deciding.{Started, is_of, all_below, first_start, commit_place, outcome_of}
use Rattle.vote_log.specs.Owed.{count_below}
use Rattle.vote_log.specs.Admission.{vote_refusal}

-- the tally stands for a started deal of the log
pub record IsTally (log : List Entry) (deal : Id) (tally : Tally) : Type 0 where
  pub start : Started
  pub started : first_start log deal ≡ Some start
  pub at : tally.at ≡ start.at
  pub parties : tally.parties ≡ start.parties
  pub few : tally.parties ≤ most_parties
  pub indices : length tally.committed ≡ most_parties
  pub committed : (index : ℕ) → index < most_parties
      → slice_index_or tally.committed index None ≡ commit_place deal start index
  pub decision : tally.decision ≡ outcome_of log deal

abbrev pub StandsFor : List Entry → Id → Option Tally → Type 0
StandsFor log deal None = first_start log deal ≡ None
StandsFor log deal (Some tally) = IsTally log deal tally

abbrev pub IsSmall : Option Tally → Type 0
IsSmall None = Unit {0}
IsSmall (Some tally) = tally.parties ≤ most_parties

abbrev pub all_placed : List (Option ℕ) → ℕ → Bool
all_placed committed parties =
    all_below (λ index. is_some (slice_index_or committed index None)) parties

abbrev pub unplaced : List (Option ℕ) → ℕ → ℕ
unplaced committed parties =
    count_below (λ index. not (is_some (slice_index_or committed index None))) parties

abbrev pub placed_with : List (Option ℕ) → ℕ → ℕ → List (Option ℕ)
placed_with committed index place =
    if is_some (slice_index_or committed index None) then committed
    else slice_set committed index (Some place)

abbrev pub decided_first : Option Decision → Bool → Outcome → ℕ → Option Decision
decided_first (Some decision) decides outcome at = Some decision
decided_first None decides outcome at =
    if decides then Some (record { outcome = outcome; at = at }) else None

abbrev pub opened_tally : ℕ → ℕ → Tally
opened_tally at parties =
    record { at = at; parties = parties; committed = replicate most_parties None; decision = None }

abbrev pub committed_tally : Tally → ℕ → ℕ → Tally
committed_tally tally index place =
    record tally {
      committed = placed_with tally.committed index place;
      decision = decided_first tally.decision
          (all_placed (placed_with tally.committed index place) tally.parties) ToCommit place;
    }

abbrev pub aborted_tally : Tally → ℕ → ℕ → Tally
aborted_tally tally index place =
    record tally {
      decision = decided_first tally.decision
          (nat_lt index tally.parties && not (all_placed tally.committed tally.parties))
          ToAbort place;
    }

-- the tally after a record of its deal
abbrev pub tally_with : Option Tally → Kind → ℕ → ℕ → Option Tally
tally_with None Start num place = Some (opened_tally place num)
tally_with None Commit num place = None
tally_with None Abort num place = None
tally_with (Some tally) Start num place = Some tally
tally_with (Some tally) Commit num place = Some (committed_tally tally num place)
tally_with (Some tally) Abort num place = Some (aborted_tally tally num place)

-- the tally after one more record of the log
abbrev pub tally_after : Id → Option Tally → Entry → ℕ → Option Tally
tally_after deal tally entry place =
    if is_of deal entry then tally_with tally entry.kind entry.num place else tally

abbrev pub owed_in : Option Tally → ℕ
owed_in None = 0
owed_in (Some tally) = if is_some tally.decision then 0 else unplaced tally.committed tally.parties

abbrev pub place_in : Option Tally → ℕ → Option ℕ
place_in None index = None
place_in (Some tally) index = slice_index_or tally.committed index None

abbrev pub votable_by_decision : ℕ → Option Decision → Result ℕ LogFault
votable_by_decision parties (Some decision) = Err (Decided decision.at decision.outcome)
votable_by_decision parties None = Ok parties

abbrev pub votable_in : Option Tally → Result ℕ LogFault
votable_in None = Err NotStarted
votable_in (Some tally) = votable_by_decision tally.parties tally.decision

abbrev pub start_refusal_in : Option Tally → (len owed limit parties : ℕ) → Option LogFault
start_refusal_in (Some tally) len owed limit parties = Some (StartedAlready tally.at)
start_refusal_in None len owed limit parties =
    if nat_lt limit (len + owed + 1 + parties) then Some (LogFull len owed) else None

-- why a record of this kind and number is refused
abbrev pub refusal_by_kind : Kind → Option Tally → (len owed limit num : ℕ) → Option LogFault
refusal_by_kind Start tally len owed limit num = start_refusal_in tally len owed limit num
refusal_by_kind Commit tally len owed limit num =
    vote_refusal (votable_in tally) num (place_in tally num)
refusal_by_kind Abort tally len owed limit num = vote_refusal (votable_in tally) num None

abbrev pub refusal_in : Option Tally → (len owed limit : ℕ) → Entry → Option LogFault
refusal_in tally len owed limit entry = refusal_by_kind entry.kind tally len owed limit entry.num
