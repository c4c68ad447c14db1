-- The one-log ledger: each ledger's step on each event, where all ledgers read one log.
use Rattle.std.specs.Prelude.{ℕ, ◌+◌, Bool, if◌then◌else◌, List, [], ◌∷◌, ◌++◌, length, map, take, position, Option, Some, None, Result, Ok, Err}
use Rattle.std.specs.List.{list_any}
use Rattle.std.specs.Option.{unwrap_or}
use Rattle.std.specs.Str.{bytes_eq}
use Rattle.dh_base.specs.declared.id.Id.{Id}
use Rattle.dh_base.specs.declared.outcome.Outcome.{Outcome}
use Rattle.dh_base.specs.declared.outcome.Outcome.TheVariants.{Commit as ToCommit, Abort as ToAbort}
use Rattle.escrow_book.specs.declared.change.Change.TheVariants as change
use Rattle.escrow_book.specs.declared.fault.BookFault.{BookFault}
use Rattle.escrow_book.specs.declared.fault.BookFault.TheVariants as book
use Rattle.dh_base.specs.Ids.{same_id}
use Rattle.escrow_book.specs.History.{History, with_change, is_known, settlement_of}
use Rattle.escrow_book.specs.Reached.{registered}
use Rattle.escrow_book.specs.Refused.{escrow_refusal, transfer_refusal}
use Rattle.vote_log.specs.declared.decision.Decision.{Decision}
use Rattle.vote_log.specs.declared.kind.Kind.TheVariants as kind
use Rattle.vote_log.specs.declared.log_fault.LogFault.{LogFault}
use Rattle.vote_log.specs.Entry.{Entry}
use Rattle.vote_log.specs.Log.{Log}
use Rattle.vote_log.specs.Voting.{vote_kind}
use Rattle.vote_log.specs.Deciding.{outcome_of}
use Rattle.vote_log.specs.Admission.{add_refusal, votable_of}
use Rattle.plain_script.specs.BoundNames.{members_of}
use Rattle.plain_script.specs.declared.declaration.Declaration.{Declaration}
use Rattle.plain_script.specs.declared.event.Event.{Event}
use Rattle.plain_script.specs.declared.event.Event.TheVariants.{Register, Escrow, Transfer, Start, Commit, Abort, Claim}
use Rattle.plain_script.specs.Ids.{plain_id}
use Rattle.plain_core.specs.declared.act_refusal.ActRefusal.{ActRefusal}
use Rattle.plain_core.specs.declared.act_refusal.ActRefusal.TheVariants as act
use Rattle.plain_core.specs.declared.log_refusal.LogRefusal.TheVariants as refused
use Rattle.plain_core.specs.declared.claim_refusal.ClaimRefusal.TheVariants as claim
use Rattle.plain_core.specs.declared.reply.Reply.{Reply}
use Rattle.plain_core.specs.declared.reply.Reply.TheVariants.{Done, Entered, Settled, Already, RefusedAct, RefusedEntry, RefusedClaim}

-- a ledger: its name, the history of its book, and how many acts and settlements it has accepted
pub record LedgerTold : Type 0 where
  pub name : List ℕ
  pub history : History
  pub entries : ℕ

-- all ledgers, and the one log that they read
pub record World : Type 0 where
  pub ledgers : List LedgerTold
  pub log : Log

-- ---- acts

abbrev pub is_member : List (List ℕ) → List ℕ → Bool
is_member members party = list_any (bytes_eq party) members

-- a ledger with one entry more, and this history
abbrev pub with_entry : LedgerTold → History → LedgerTold
with_entry ledger history =
    record { name = ledger.name; history = history; entries = ledger.entries + 1 }

-- what a ledger answers, and what it is then
pub record Answer : Type 0 where
  pub reply : Reply
  pub ledger : LedgerTold

abbrev pub accepts : LedgerTold → History → Answer
accepts ledger history =
    record { reply = Done (ledger.entries + 1); ledger = with_entry ledger history }

abbrev pub refuses : LedgerTold → Reply → Answer
refuses ledger reply = record { reply = reply; ledger = ledger }

-- the one of two names whose id the account is, or else the second
abbrev pub name_of : List ℕ → List ℕ → Id → List ℕ
name_of first second account = if same_id account (plain_id first) then first else second

-- A book's refusal, with the numbers of a ledger's and the account by its name. Want of memory is
-- no refusal of a history.
abbrev pub act_refusal : List ℕ → List ℕ → BookFault → ActRefusal
act_refusal first second book.UnknownDeal = act.UnknownDeal
act_refusal first second (book.NotAParty account) = act.NotAParty (name_of first second account)
act_refusal first second (book.DealSettled outcome) = act.DealSettled outcome
act_refusal first second (book.WrongTurn expected) = act.WrongTurn expected
act_refusal first second book.ZeroOrSelf = act.ZeroOrSelf
act_refusal first second (book.Short held) = act.Short held
act_refusal first second book.NoMemory = act.UnknownDeal

-- the answer to an act with this refusal of the book, and this history without one
abbrev pub act_answer : LedgerTold → List ℕ → List ℕ → Option BookFault → History → Answer
act_answer ledger first second (Some fault) history =
    refuses ledger (RefusedAct (act_refusal first second fault))
act_answer ledger first second None history = accepts ledger history

-- A party of the deal registers it. A deal that is registered stays as it is, and the act has an
-- entry all the same.
abbrev pub register_answer : List (List ℕ) → List ℕ → List ℕ → LedgerTold → Answer
register_answer members deal party ledger =
    if is_member members party
    then accepts ledger (registered ledger.history (plain_id deal) (map plain_id members))
    else refuses ledger (RefusedAct (act.NotAParty party))

abbrev pub escrow_answer : List ℕ → List ℕ → List ℕ → ℕ → LedgerTold → Answer
escrow_answer deal party asset amount ledger =
    act_answer ledger party party
    (escrow_refusal ledger.history (plain_id deal) (plain_id party) asset amount)
    (with_change ledger.history (change.Escrowed (plain_id deal) (plain_id party) asset amount))

abbrev pub transfer_answer : List ℕ → List ℕ → ℕ → List ℕ → List ℕ → ℕ → LedgerTold → Answer
transfer_answer deal from turn to asset amount ledger =
    act_answer ledger from to
    (transfer_refusal ledger.history (plain_id deal) (plain_id from) turn (plain_id to) asset
    amount)
    (with_change ledger.history
    (change.Transferred (plain_id deal) (plain_id from) (plain_id to) asset amount))

-- ---- claims

-- what a claim finds: the deal's settlement, or else what the shown records decide
abbrev pub claim_decided : LedgerTold → Id → ℕ → Option Decision → Answer
claim_decided ledger deal len None = refuses ledger (RefusedClaim (claim.Undecided len))
claim_decided ledger deal len (Some decision) =
    record {
      reply = Settled decision.outcome;
      ledger =
          with_entry ledger (with_change ledger.history (change.Settled deal decision.outcome));
    }

abbrev pub claim_found : LedgerTold → Id → ℕ → Option Outcome → Option Decision → Answer
claim_found ledger deal len (Some outcome) decision = refuses ledger (Already outcome)
claim_found ledger deal len None decision = claim_decided ledger deal len decision

-- the first `len` records of the log are shown
abbrev pub claim_answer : List Entry → List ℕ → ℕ → LedgerTold → Answer
claim_answer entries deal len ledger =
    if is_known ledger.history (plain_id deal)
    then claim_found ledger (plain_id deal) len (settlement_of ledger.history (plain_id deal))
    (outcome_of (take len entries) (plain_id deal))
    else refuses ledger (RefusedClaim claim.UnknownDeal)

-- ---- the log

pub record LogAnswer : Type 0 where
  pub reply : Reply
  pub log : Log

abbrev pub log_refuses : Log → Reply → LogAnswer
log_refuses log reply = record { reply = reply; log = log }

-- the entry at the log's end, unless the log refuses it
abbrev pub entry_answer : Log → Entry → Option LogFault → LogAnswer
entry_answer log entry (Some fault) = log_refuses log (RefusedEntry (refused.Fault fault))
entry_answer log entry None =
    record {
      reply = Entered (length log.entries);
      log = record log {
        entries = log.entries
            ++ entry ∷ [];
      };
    }

abbrev pub add_answer : Log → Entry → LogAnswer
add_answer log entry = entry_answer log entry (add_refusal log.entries log.limit entry)

-- a party of the deal starts it
abbrev pub start_answer : List (List ℕ) → List ℕ → List ℕ → Log → LogAnswer
start_answer members deal party log =
    if is_member members party
    then add_answer log
    (record { kind = kind.Start; num = length members; deal = plain_id deal })
    else log_refuses log (RefusedEntry (refused.NotAParty party))

-- a vote of the party with that index, or of none
abbrev pub vote_by : Log → Outcome → List ℕ → List ℕ → Option ℕ → LogAnswer
vote_by log choice deal party None = log_refuses log (RefusedEntry (refused.NotAParty party))
vote_by log choice deal party (Some index) =
    add_answer log (record { kind = vote_kind choice; num = index; deal = plain_id deal })

-- whether the deal can be voted on comes before whose vote it is
abbrev pub vote_found : Log → Outcome → List ℕ → List ℕ → Option ℕ → Result ℕ LogFault → LogAnswer
vote_found log choice deal party index (Err fault) =
    log_refuses log (RefusedEntry (refused.Fault fault))
vote_found log choice deal party index (Ok parties) = vote_by log choice deal party index

abbrev pub vote_answer : List (List ℕ) → Outcome → List ℕ → List ℕ → Log → LogAnswer
vote_answer members choice deal party log =
    vote_found log choice deal party (position (bytes_eq party) members)
    (votable_of log.entries (plain_id deal))

-- ---- the whole

-- what an event is answered, and all ledgers and the log then
pub record Step : Type 0 where
  pub reply : Reply
  pub world : World

-- the answer of the first ledger of that name, and the ledgers with it as it is then
pub record LedgersStep : Type 0 where
  pub reply : Reply
  pub ledgers : List LedgerTold

abbrev pub first_answers : LedgerTold → List LedgerTold → Answer → LedgersStep
first_answers ledger rest answer = record { reply = answer.reply; ledgers = answer.ledger ∷ rest }

abbrev pub behind : LedgerTold → LedgersStep → LedgersStep
behind ledger step = record { reply = step.reply; ledgers = ledger ∷ step.ledgers }

-- a name that no ledger has knows no deal
abbrev pub at_ledger : List ℕ → (LedgerTold → Answer) → Reply → List LedgerTold → LedgersStep
at_ledger name answer unknown [] = record { reply = unknown; ledgers = [] }
at_ledger name answer unknown (ledger ∷ rest) =
    if bytes_eq name ledger.name
    then first_answers ledger rest (answer ledger)
    else behind ledger (at_ledger name answer unknown rest)

abbrev pub with_ledgers : World → LedgersStep → Step
with_ledgers world step =
    record { reply = step.reply; world = record { ledgers = step.ledgers; log = world.log } }

abbrev pub with_log : World → LogAnswer → Step
with_log world answer =
    record { reply = answer.reply; world = record { ledgers = world.ledgers; log = answer.log } }

abbrev pub act_at : World → List ℕ → (LedgerTold → Answer) → Step
act_at world name answer =
    with_ledgers world (at_ledger name answer (RefusedAct act.UnknownDeal) world.ledgers)

-- the step of an event whose numbers fit their fields
abbrev pub step_of : List Declaration → World → Event → Step
step_of ds world (Register ledger deal party) =
    act_at world ledger (register_answer (members_of ds deal) deal party)
step_of ds world (Escrow ledger deal party asset amount) =
    act_at world ledger (escrow_answer deal party asset amount)
step_of ds world (Transfer ledger deal from turn to asset amount) =
    act_at world ledger (transfer_answer deal from (unwrap_or turn 0) to asset amount)
step_of ds world (Start deal party) =
    with_log world (start_answer (members_of ds deal) deal party world.log)
step_of ds world (Commit deal party) =
    with_log world (vote_answer (members_of ds deal) ToCommit deal party world.log)
step_of ds world (Abort deal party) =
    with_log world (vote_answer (members_of ds deal) ToAbort deal party world.log)
step_of ds world (Claim ledger deal len) =
    with_ledgers world
    (at_ledger ledger (claim_answer world.log.entries deal (unwrap_or len 0))
    (RefusedClaim claim.UnknownDeal) world.ledgers)
