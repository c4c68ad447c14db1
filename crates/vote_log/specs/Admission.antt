-- Which records a log takes.
use Rattle.std.specs.Prelude.{ℕ, ◌≡◌, ◌+◌, nat_lt, nat_le, if◌then◌else◌, Option, Some, None, Result, Ok, Err, List, [], ◌∷◌, ◌++◌, length, replicate}
use Rattle.std.specs.Option.{option_map}
use Rattle.dh_base.specs.declared.id.Id.{Id}
use Rattle.vote_log.specs.declared.decision.Decision.{Decision}
use Rattle.vote_log.specs.declared.kind.Kind.{Kind}
use Rattle.vote_log.specs.declared.kind.Kind.TheVariants.{Start, Commit, Abort}
use Rattle.vote_log.specs.declared.log_fault.LogFault.{LogFault}
use Rattle.vote_log.specs.declared.log_fault.LogFault.TheVariants.{NotAParty, StartedAlready, LogFull, NotStarted, Decided, VotedAlready, NoMemory}
use Rattle.vote_log.specs.Entry.{Entry}
use Rattle.vote_log.specs.Deciding.{Started, first_start, commit_place, outcome_of}
use Rattle.vote_log.specs.Owed.{owed_of}

-- of how many parties the deal is that the log starts
abbrev pub parties_started : List Entry → Id → Option ℕ
parties_started log deal = option_map (λ (start : Started). start.parties) (first_start log deal)

-- how many parties may vote on a deal, by its start and its decision
abbrev pub votable_by : Option Started → Option Decision → Result ℕ LogFault
votable_by None decision = Err NotStarted
votable_by (Some start) (Some decision) = Err (Decided decision.at decision.outcome)
votable_by (Some start) None = Ok start.parties

abbrev pub votable_of : List Entry → Id → Result ℕ LogFault
votable_of log deal = votable_by (first_start log deal) (outcome_of log deal)

-- the account of an index that no party has
abbrev pub no_account : Id
no_account = record { 0 = replicate 32 0 }

-- a start finds the deal started, or no room for itself and a vote of each party beside the votes
-- that are owed
abbrev pub start_refusal : Option Started → (length owed limit parties : ℕ) → Option LogFault
start_refusal (Some start) len owed limit parties = Some (StartedAlready start.at)
start_refusal None len owed limit parties =
    if nat_lt limit (len + owed + 1 + parties) then Some (LogFull len owed) else None

-- a commit finds one by its index
abbrev pub commit_refusal : Option ℕ → Option LogFault
commit_refusal None = None
commit_refusal (Some place) = Some (VotedAlready place)

-- where the index committed first since the start
abbrev pub earlier_commit : Id → Option Started → ℕ → Option ℕ
earlier_commit deal None index = None
earlier_commit deal (Some start) index = commit_place deal start index

-- a vote finds the deal not started or decided, an index that is none of the deal's, or an earlier
-- commit
abbrev pub vote_refusal : Result ℕ LogFault → ℕ → Option ℕ → Option LogFault
vote_refusal (Err fault) index earlier = Some fault
vote_refusal (Ok parties) index earlier =
    if nat_le parties index then Some (NotAParty no_account) else commit_refusal earlier

-- why the log refuses the record, if it does
abbrev pub add_refusal : List Entry → ℕ → Entry → Option LogFault
add_refusal log limit entry = refusal_of entry.kind
  where
    refusal_of : Kind → Option LogFault
    refusal_of Start = start_refusal (first_start log entry.deal) (length log)
        (owed_of log) limit entry.num
    refusal_of Commit = vote_refusal (votable_of log entry.deal) entry.num
        (earlier_commit entry.deal (first_start log entry.deal) entry.num)
    refusal_of Abort = vote_refusal (votable_of log entry.deal) entry.num None

-- each record of `rest` was taken behind those before it, the first of them behind `front`
abbrev pub IsLogFrom : ℕ → List Entry → List Entry → Type 0
IsLogFrom limit front [] = Unit {0}
IsLogFrom limit front (entry ∷ rest) =
    (add_refusal front limit entry ≡ None) × IsLogFrom limit (front ++ entry ∷ []) rest

-- the log is reached from the empty one by records that it took
abbrev pub IsLog : List Entry → ℕ → Type 0
IsLog log limit = IsLogFrom limit [] log

-- the fault is the refusal. Want of memory may stand in its place
abbrev pub IsRefusal : LogFault → Option LogFault → Type 0
IsRefusal NoMemory refusal = Unit {0}
IsRefusal fault refusal = refusal ≡ Some fault
