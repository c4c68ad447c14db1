-- What every run of a plain script keeps to: all ledgers read one log, and a deal is whole on all
-- of them or not at all.
use Rattle.std.specs.Prelude.{ℕ, ◌≡◌, ◌+◌, ◌≤◌, true, List, [], ◌∷◌, ◌++◌, length, map, take, find, flat_map, Contains, Option, Some, None, Ok}
use Rattle.std.specs.Str.{bytes_eq}
use Rattle.dh_base.specs.declared.id.Id.{Id}
use Rattle.dh_base.specs.declared.outcome.Outcome.{Outcome}
use Rattle.dh_base.specs.declared.outcome.Outcome.TheVariants.{Commit, Abort}
use Rattle.escrow_book.specs.declared.change.Change.TheVariants as change
use Rattle.escrow_book.specs.History.{History, with_change, is_known, settlement_of, if_commit_of, if_abort_of, free_of}
use Rattle.escrow_book.specs.Reached.{IsReached}
use Rattle.escrow_book.specs.Conserved.{AreItsAccounts, IsConserved, settlements_of}
use Rattle.vote_log.specs.Entry.{Entry}
use Rattle.vote_log.specs.Deciding.{outcome_of}
use Rattle.plain_script.specs.Reading.{ScriptTold, reading_of}
use Rattle.plain_script.specs.declared.declaration.Declaration.{Declaration}
use Rattle.plain_script.specs.declared.event.Event.TheVariants.{Claim}
use Rattle.plain_script.specs.declared.numbered.Numbered.{Numbered}
use Rattle.plain_script.specs.Ids.{plain_id}
use Rattle.plain_script.specs.OpeningRows.{rows_of}
use Rattle.plain_core.specs.Starts.{started_world}
use Rattle.plain_core.specs.Ledgers.{LedgerTold, World, step_of}
use Rattle.plain_core.specs.Reports.{reply_line}
use Rattle.plain_core.specs.Tables.{tables_text}
use Rattle.plain_core.specs.declared.reply.Reply.{Reply}
use Rattle.plain_core.specs.declared.reply.Reply.TheVariants.{Settled, Already}

-- ---- runs

-- a moment of a run: what happens, all ledgers and the log before it, the reply, and all ledgers
-- and the log behind it
pub record Moment : Type 0 where
  pub happened : Numbered
  pub before : World
  pub reply : Reply
  pub after : World

abbrev pub moment_at : List Declaration → World → Numbered → Moment
moment_at ds world happened =
    record {
      happened = happened;
      before = world;
      reply = (step_of ds world happened.event).reply;
      after = (step_of ds world happened.event).world;
    }

-- the moments of these events, of which the first finds this world and each later one the world
-- that the last one left
abbrev pub moments_from : List Declaration → World → List Numbered → List Moment
moments_from ds world [] = []
moments_from ds world (happened ∷ rest) =
    moment_at ds world happened ∷ moments_from ds (moment_at ds world happened).after rest

-- the world behind the last moment
abbrev pub end_of : World → List Moment → World
end_of world [] = world
end_of world (moment ∷ rest) = end_of moment.after rest

pub record Run : Type 0 where
  pub start : World
  pub moments : List Moment
  pub end : World

abbrev pub run_between : World → List Moment → Run
run_between start moments = record { start = start; moments = moments; end = end_of start moments }

-- the run of a script
abbrev pub run_of : ScriptTold → Run
run_of script =
    run_between (started_world script.declarations)
    (moments_from script.declarations (started_world script.declarations) script.events)

-- the worlds of a run: at its start and behind each moment
abbrev pub worlds_of : Run → List World
worlds_of run = run.start ∷ map (λ (moment : Moment). moment.after) run.moments

-- ---- settlements

-- these entries decide the deal so, at the first decisive place
abbrev pub IsOutcome : List Entry → Id → Outcome → Type 0
IsOutcome entries deal outcome =
    (place : ℕ) × (outcome_of entries deal ≡ Some (record { outcome = outcome; at = place }))

-- the entries begin with the front
abbrev pub IsFrontOf : (front entries : List Entry) → Type 0
IsFrontOf front entries = (more : List Entry) × (entries ≡ front ++ more)

-- the ledger of that name
abbrev pub ledger_named : List ℕ → World → Option LedgerTold
ledger_named name world = find (λ ledger. bytes_eq name ledger.name) world.ledgers

-- the deal is registered and not settled
pub record IsOpen (h : History) (deal : Id) : Type 0 where
  pub registered : is_known h deal ≡ true
  pub unsettled : settlement_of h deal ≡ None

-- Every account's free amount of every asset grows by what it owns if the deal ends so: by its
-- escrows and what it received less what it gave on commit, by exactly its own escrows on abort.
abbrev pub PaysOut : Outcome → (before after : History) → Id → Type 0
PaysOut Commit before after deal =
    (account : Id) (asset : List ℕ)
    → free_of after account asset
    ≡ free_of before account asset + if_commit_of before deal account asset
PaysOut Abort before after deal =
    (account : Id) (asset : List ℕ)
    → free_of after account asset
    ≡ free_of before account asset + if_abort_of before deal account asset

-- At this moment a claim settles the deal on the ledger: it names a prefix of the log, the prefix
-- decides the deal, the deal was open, the reply says so, and the ledger has the settlement and
-- pays out by it.
pub record IsSettlement (moment : Moment) (ledger deal : List ℕ) (outcome : Outcome) : Type 0 where
  pub len : ℕ
  pub claimed : moment.happened.event ≡ Claim ledger deal (Some len)
  pub shown : len ≤ length moment.before.log.entries
  pub decided : IsOutcome (take len moment.before.log.entries) (plain_id deal) outcome
  pub before : LedgerTold
  pub found : ledger_named ledger moment.before ≡ Some before
  pub «open» : IsOpen before.history (plain_id deal)
  pub replied : moment.reply ≡ Settled outcome
  pub after : LedgerTold
  pub left : ledger_named ledger moment.after ≡ Some after
  pub entered : after.history ≡ with_change before.history (change.Settled (plain_id deal) outcome)
  pub paid : PaysOut outcome before.history after.history (plain_id deal)

-- a moment of the run settled the deal of that id on the ledger
abbrev pub WasSettled : Run → List ℕ → Id → Outcome → Type 0
WasSettled run ledger deal outcome =
    (moment : Moment) × (name : List ℕ) × Contains run.moments moment × (deal ≡ plain_id name)
    × IsSettlement moment ledger name outcome

-- the ledger has this settlement in its history at the end of the run
pub record EndsSettled (run : Run) (ledger : LedgerTold) (deal : Id) (outcome : Outcome) : Type 0
  where
    pub there : Contains run.end.ledgers ledger
    pub settled : Contains ledger.history.changes (change.Settled deal outcome)

-- the ledger of that name has this settlement in its history at the end of the run
abbrev pub StandsSettled : Run → List ℕ → Id → Outcome → Type 0
StandsSettled run name deal outcome =
    (ledger : LedgerTold) × (ledger_named name run.end ≡ Some ledger)
    × EndsSettled run ledger deal outcome

-- At this moment a claim is answered that its deal is settled already on the ledger, and it is.
pub record IsRepeat (moment : Moment) (ledger deal : List ℕ) (outcome : Outcome) : Type 0 where
  pub len : Option ℕ
  pub claimed : moment.happened.event ≡ Claim ledger deal len
  pub before : LedgerTold
  pub found : ledger_named ledger moment.before ≡ Some before
  pub settled : settlement_of before.history (plain_id deal) ≡ Some outcome
  pub replied : moment.reply ≡ Already outcome

-- ---- the promise

-- A ledger has the opening rows of the script, and each change was accepted after those before it,
-- so no amount is a difference that was cut at 0. What its accounts can spend and what is owned in
-- open deals is together what these rows opened, whichever of its two owners each escrowed amount
-- is counted with. No deal is settled twice there.
pub record KeepsAssets (ds : List Declaration) (ledger : LedgerTold) : Type 0 where
  pub opening : ledger.history.opening ≡ rows_of ds ledger.name
  pub reached : IsReached ledger.history
  pub conserved : (accounts : List Id) (asset : List ℕ) → AreItsAccounts ledger.history accounts
      → IsConserved ledger.history accounts asset
  pub once : (deal : Id) → settlements_of ledger.history deal ≤ 1

-- A claim whose prefix of the log decides a deal that is open on that ledger is answered by that
-- outcome.
abbrev pub IsAccepted : Moment → Type 0
IsAccepted moment =
    (ledger deal : List ℕ) (len : ℕ) (outcome : Outcome) (before : LedgerTold)
    → moment.happened.event ≡ Claim ledger deal (Some len)
    → ledger_named ledger moment.before ≡ Some before
    → IsOpen before.history (plain_id deal)
    → IsOutcome (take len moment.before.log.entries) (plain_id deal) outcome
    → moment.reply ≡ Settled outcome

-- What every run keeps to.
pub record FollowsOneLog (ds : List Declaration) (run : Run) : Type 0 where
  -- any two settlements of one deal, on whatever ledgers, have the same outcome
  pub agree : (one other : LedgerTold) (deal : Id) (first second : Outcome)
      → EndsSettled run one deal first → EndsSettled run other deal second → first ≡ second
  -- each has the outcome that the one log gives
  pub by_log : (ledger : LedgerTold) (deal : Id) (outcome : Outcome)
      → EndsSettled run ledger deal outcome → IsOutcome run.end.log.entries deal outcome
  -- each was made by a claim, by the prefix of the log that this named, and paid out then
  pub by_claim : (ledger : LedgerTold) (deal : Id) (outcome : Outcome)
      → EndsSettled run ledger deal outcome → WasSettled run ledger.name deal outcome
  -- where a reply says that a deal was settled, it was
  pub told : (moment : Moment) (outcome : Outcome) → Contains run.moments moment
      → moment.reply ≡ Settled outcome
      → (ledger deal : List ℕ) × IsSettlement moment ledger deal outcome
  -- each settlement that a moment made has the outcome that the log gives at the end, and stands at
  -- the end
  pub stands : (moment : Moment) (ledger deal : List ℕ) (outcome : Outcome)
      → Contains run.moments moment
      → IsSettlement moment ledger deal outcome
      → IsOutcome run.end.log.entries (plain_id deal) outcome
      × StandsSettled run ledger (plain_id deal) outcome
  -- where a reply says that a deal was settled already, it was, with the outcome that the log gives
  pub again : (moment : Moment) (outcome : Outcome) → Contains run.moments moment
      → moment.reply ≡ Already outcome
      → (ledger deal : List ℕ) × IsRepeat moment ledger deal outcome
      × IsOutcome run.end.log.entries (plain_id deal) outcome
  -- the log only grows
  pub grows : (moment : Moment) → Contains run.moments moment
      → IsFrontOf moment.before.log.entries moment.after.log.entries
      × IsFrontOf moment.after.log.entries run.end.log.entries
  -- a deciding claim is accepted the first time
  pub accepted : (moment : Moment) → Contains run.moments moment → IsAccepted moment
  -- nothing is made or lost on any ledger at any time, and nothing is paid out twice
  pub conserved : (world : World) (ledger : LedgerTold) → Contains (worlds_of run) world
      → Contains world.ledgers ledger → KeepsAssets ds ledger

-- ---- its report

abbrev pub moment_line : Moment → List ℕ
moment_line moment = reply_line moment.happened.line moment.reply

-- a line for each moment, and the tables of the world at the end
abbrev pub run_text : List Declaration → Run → List ℕ
run_text ds run = flat_map moment_line run.moments ++ tables_text ds run.end

-- The script is read, the report is that of its run, and the run follows the one log.
pub record TellsOneLog (script report : List ℕ) : Type 0 where
  pub read : ScriptTold
  pub read_so : reading_of script ≡ Ok read
  pub written : report ≡ run_text read.declarations (run_of read)
  pub follows : FollowsOneLog read.declarations (run_of read)
