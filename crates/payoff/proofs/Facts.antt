-- What holds of a world at every moment of a run.
use Rattle.std.proofs.Common.{◌≡◌, ℕ, ◌<◌, ◌≤◌, true, Some, None, Ok, List, ◌++◌, length, Contains}
use Rattle.std.specs.List.{AllByRecursion}
use Rattle.dh_base.specs.declared.id.Id.{Id}
use Rattle.dh_base.specs.Fields.{AreBytes}
use Rattle.dh_base.specs.declared.outcome.Outcome.{Outcome}
use Rattle.dh_base.specs.declared.outcome.Outcome.TheVariants as out
use Rattle.act_text.specs.declared.act.Act.{Act}
use Rattle.act_text.specs.declared.act.Act.TheVariants.{Register, Pay, Escrow, Transfer, StartDeal, Vote}
use Rattle.act_text.specs.declared.office.Office.TheVariants.{Ledger, Log}
use Rattle.act_text.specs.ActTexts.{act_text, ActFits}
use Rattle.act_text.specs.ActReading.{act_of}
use Rattle.act_text.specs.declared.statement.Statement.{Statement}
use Rattle.deal_core.specs.Deals.{DealTold, index_of_account}
use Rattle.clear_core.specs.Clearing.{due_of, turns_of}
use Rattle.ledger_rows.specs.declared.entry.Entry.{Entry}
use Rattle.ledger_rows.specs.declared.entry.Entry.TheVariants.{Act as Accepted, Settlement}
use Rattle.ledger_history.specs.Histories.{IsHistory}
use Rattle.ledger_history.specs.PlannedActs.{AreOnce}
use Rattle.vote_log.specs.declared.kind.Kind.{Kind}
use Rattle.vote_log.specs.declared.kind.Kind.TheVariants.{Start, Commit, Abort}
use Rattle.vote_log.specs.declared.decision.Decision.{Decision}
use Rattle.vote_log.specs.Entry.{Entry as Rec}
use Rattle.vote_log.specs.Deciding.{outcome_of}
use Rattle.cert_core.specs.Sets.{SetTold}
use Rattle.claim_core.specs.declared.claim.Claim.{Claim}
use Rattle.claim_core.specs.Certificates.{Certifies}
use Rattle.payoff.specs.Agents.{AgentState, is_about, listed_of, IsPartyOf, IsPlanned}
use Rattle.payoff.specs.Worlds.{World, LedgerState, IsRead, IsStatementOf}
use Rattle.payoff.specs.Moments.{texts_read, IsSigned}

-- a claim that was shown certifies that the deal ends so
pub record IsDecided (w : World) (deal : Id) (outcome : Outcome) : Type 0 where
  pub claim : Claim
  pub shown : Contains w.shown claim
  pub set : SetTold
  pub certifies : Certifies w.genesis claim set
  pub decision : Decision
  pub decides : outcome_of claim.recs deal ≡ Some decision
  pub is : decision.outcome ≡ outcome

-- a compliant account has signed the message, whose deal text was carried; a settlement was decided
pub record IsActKept (w : World) (account : Id) (q : ℕ) (message : List ℕ) : Type 0 where
  pub signed : IsSigned w account q message
  pub carried : AllByRecursion (Contains w.texts) (texts_read (act_of Ledger message))

abbrev pub IsEntryKept : World → Entry → Type 0
IsEntryKept w (Accepted account q message) = IsActKept w account q message
IsEntryKept w (Settlement deal outcome) = IsDecided w deal outcome

-- the statement is that of a front of its ledger's history
pub record IsPooled (w : World) (s : Statement) : Type 0 where
  pub ledger : LedgerState
  pub here : w.ledgers s.ledger ≡ Some ledger
  pub front : List Entry
  pub rest : List Entry
  pub parts : front ++ rest ≡ ledger.entries
  pub is : IsStatementOf (record { rows = ledger.rows; entries = front }) s

-- ---- agents

pub record IsShown (w : World) (party : Id) (deal : DealTold) (index : ℕ) (ledger asset : List ℕ) : Type 0 where
  pub statement : Statement
  pub pooled : Contains w.pool statement
  pub about : is_about party deal.id ledger statement ≡ true
  pub open_yet : statement.settled ≡ None
  pub moved : statement.moves ≡ turns_of deal.steps index ledger
  pub covers : due_of deal.steps index ledger asset ≤ listed_of statement.rows asset

-- what stands behind a signed commit
pub record IsBacked (w : World) (account : Id) (agent : AgentState) (id : Id) (index : ℕ) : Type 0 where
  pub deal : DealTold
  pub named : deal.id ≡ id
  pub within : IsPartyOf account agent deal index
  pub seen : (ledger asset : List ℕ) → 0 < due_of deal.steps index ledger asset → IsShown w account deal index ledger asset

abbrev pub IsMeantBy : World → Id → AgentState → Act → Type 0
IsMeantBy w account agent (Vote id index out.Commit) = IsBacked w account agent id index
IsMeantBy w account agent (Vote id index out.Abort) = Unit {0}
IsMeantBy w account agent (Escrow within ledger asset amount) = IsPlanned account agent (Escrow within ledger asset amount)
IsMeantBy w account agent (Transfer within ledger turn to asset amount) = IsPlanned account agent (Transfer within ledger turn to asset amount)
IsMeantBy w account agent (Register text) = Unit {0}
IsMeantBy w account agent (Pay house ledger to asset amount) = Unit {0}
IsMeantBy w account agent (StartDeal text) = Unit {0}

-- the text is that of an act that is meant
pub record IsMeantText (w : World) (account : Id) (agent : AgentState) (text : List ℕ) : Type 0 where
  pub act : Act
  pub fits : ActFits act
  pub bytes : AreBytes text
  pub spelled : text ≡ act_text act
  pub meant : IsMeantBy w account agent act

pub record IsAgentKept (w : World) (account : Id) (agent : AgentState) : Type 0 where
  pub joined : AllByRecursion (IsRead w) agent.joined
  pub heard : AllByRecursion (Contains w.pool) agent.heard
  pub once : AreOnce agent.texts
  pub meant : AllByRecursion (IsMeantText w account agent) agent.texts

-- ---- records

pub record IsStarted (w : World) (parties : ℕ) (id : Id) : Type 0 where
  pub deal : DealTold
  pub read : IsRead w deal
  pub named : deal.id ≡ id
  pub size : parties ≡ length deal.parties

-- the party of that index has signed its commit, where it complies
pub record IsMeantVote (w : World) (index : ℕ) (id : Id) : Type 0 where
  pub deal : DealTold
  pub read : IsRead w deal
  pub named : deal.id ≡ id
  pub account : Id
  pub party : index_of_account deal.parties account ≡ Some index
  pub q : ℕ
  pub message : List ℕ
  pub signed : IsSigned w account q message
  pub reads : act_of Log message ≡ Ok (Vote id index out.Commit)
  pub spelled : message ≡ act_text (Vote id index out.Commit)

abbrev pub IsRecordOf : World → Kind → ℕ → Id → Type 0
IsRecordOf w Start parties id = IsStarted w parties id
IsRecordOf w Commit index id = IsMeantVote w index id
IsRecordOf w Abort index id = Unit {0}

abbrev pub IsRecordKept : World → Rec → Type 0
IsRecordKept w entry = IsRecordOf w entry.kind entry.num entry.deal

pub record Kept (w : World) : Type 0 where
  pub histories : (name : List ℕ) (ledger : LedgerState) → w.ledgers name ≡ Some ledger → IsHistory name ledger.rows ledger.entries
  pub entries : (name : List ℕ) (ledger : LedgerState) → w.ledgers name ≡ Some ledger → AllByRecursion (IsEntryKept w) ledger.entries
  pub pool : AllByRecursion (IsPooled w) w.pool
  pub agents : (account : Id) (agent : AgentState) → w.agents account ≡ Some agent → IsAgentKept w account agent
  pub records : AllByRecursion (IsRecordKept w) w.entered
