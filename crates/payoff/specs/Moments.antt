-- Runs: lists of moments, each what a node's call changes. A call that is refused, wants memory or
-- meets a failing keeper changes nothing, and is none.
use Rattle.std.specs.Prelude.{ℕ, ◌≡◌, if◌then◌else◌, List, [], ◌∷◌, ◌++◌, length, slice_get, Option, Some, None, Result, Ok, Err}
use Rattle.std.specs.Option.{option_map}
use Rattle.std.specs.List.{Contains}
use Rattle.std.specs.Str.{bytes_eq}
use Rattle.dh_base.specs.declared.id.Id.{Id}
use Rattle.dh_base.specs.Ids.{same_id}
use Rattle.dh_base.specs.Fields.{AreBytes}
use Rattle.act_text.specs.declared.act.Act.{Act}
use Rattle.act_text.specs.declared.act.Act.TheVariants.{Register, Pay, Escrow, Transfer, StartDeal, Vote}
use Rattle.act_text.specs.declared.act_fault.ActFault.{ActFault}
use Rattle.act_text.specs.declared.office.Office.TheVariants.{Ledger, Log}
use Rattle.act_text.specs.ActTexts.{act_text, ActFits}
use Rattle.act_text.specs.ActReading.{act_of}
use Rattle.act_text.specs.declared.statement.Statement.{Statement}
use Rattle.deal_core.specs.Deals.{DealTold, index_of_account}
use Rattle.deal_core.specs.DealText.{deal_text}
use Rattle.deal_core.specs.Reading.{IsTextOf}
use Rattle.ledger_rows.specs.declared.entry.Entry.{Entry}
use Rattle.ledger_rows.specs.declared.entry.Entry.TheVariants.{Act as Accepted, Settlement}
use Rattle.ledger_rows.specs.Entries.{digest_of, parties_in}
use Rattle.ledger_history.specs.Histories.{IsNext, IsHistory}
use Rattle.vote_log.specs.declared.kind.Kind.TheVariants as kind
use Rattle.vote_log.specs.declared.decision.Decision.{Decision}
use Rattle.vote_log.specs.Entry.{Entry as Rec}
use Rattle.vote_log.specs.Voting.{vote_kind}
use Rattle.vote_log.specs.Deciding.{outcome_of}
use Rattle.cert_core.specs.Sets.{SetTold}
use Rattle.claim_core.specs.declared.claim.Claim.{Claim}
use Rattle.claim_core.specs.Certificates.{Certifies}
use Rattle.payoff.specs.Agents.{AgentState, MaySign}
use Rattle.payoff.specs.Worlds.{World, LedgerState, book_in, HasOneText, IsRead, IsStatementOf}

pub data Moment : Type 0 where
  Accepts : (ledger : List ℕ) (account : Id) (q : ℕ) (message : List ℕ) → Moment
  Shows : (claim : Claim) → Moment
  Settles : (ledger : List ℕ) (deal : Id) (claim : Claim) (decision : Decision) → Moment
  States : (statement : Statement) → Moment
  Joins : (account : Id) (deal : DealTold) → Moment
  Signs : (account : Id) (act : Act) → Moment
  Hears : (account : Id) (statement : Statement) → Moment
  Forgets : (account : Id) → Moment  -- an agent is opened again
  Carries : (text : List ℕ) → Moment  -- a request carries a deal text
  Enters : (account : Id) (q : ℕ) (message : List ℕ) (act : Act) → Moment  -- a seat takes an act

-- ---- what a moment changes

-- the record that a log keeps of the act
abbrev pub records_of : Act → List Rec
records_of (StartDeal text) = record {
  kind = kind.Start;
  num = length (parties_in text);
  deal = digest_of text;
} ∷ []
records_of (Vote deal index choice) =
    record { kind = vote_kind choice; num = index; deal = deal } ∷ []
records_of (Register text) = []
records_of (Pay house ledger to asset amount) = []
records_of (Escrow deal ledger asset amount) = []
records_of (Transfer deal ledger turn to asset amount) = []

abbrev pub texts_in : Act → List (List ℕ)
texts_in (Register text) = text ∷ []
texts_in (StartDeal text) = text ∷ []
texts_in (Vote deal index choice) = []
texts_in (Pay house ledger to asset amount) = []
texts_in (Escrow deal ledger asset amount) = []
texts_in (Transfer deal ledger turn to asset amount) = []

abbrev pub texts_read : Result Act ActFault → List (List ℕ)
texts_read (Ok act) = texts_in act
texts_read (Err fault) = []

-- the deal texts that the moment carries
abbrev pub texts_of : Moment → List (List ℕ)
texts_of (Accepts ledger account q message) = texts_read (act_of Ledger message)
texts_of (Joins account deal) = deal_text deal ∷ []
texts_of (Carries text) = text ∷ []
texts_of (Enters account q message act) = texts_in act
texts_of _ = []

abbrev pub entered_by : Moment → List Rec
entered_by (Enters account q message act) = records_of act
entered_by _ = []

abbrev pub shown_by : Moment → List Claim
shown_by (Shows claim) = claim ∷ []
shown_by (Settles ledger deal claim decision) = claim ∷ []
shown_by _ = []

abbrev pub stated_by : Moment → List Statement
stated_by (States statement) = statement ∷ []
stated_by _ = []

-- what comes to the history of the ledger of that name
abbrev pub entries_by : Moment → List ℕ → List Entry
entries_by (Accepts ledger account q message) name =
    if bytes_eq ledger name then Accepted account q message ∷ [] else []
entries_by (Settles ledger deal claim decision) name =
    if bytes_eq ledger name then Settlement deal decision.outcome ∷ [] else []
entries_by _ name = []

abbrev pub agent_after : Moment → AgentState → AgentState
agent_after (Joins account deal) agent = record agent { joined = deal ∷ agent.joined }
agent_after (Signs account act) agent = record agent { texts = agent.texts ++ act_text act ∷ [] }
agent_after (Hears account statement) agent = record agent { heard = statement ∷ agent.heard }
agent_after (Forgets account) agent = record agent { heard = [] }
agent_after _ agent = agent

-- the account whose agent the moment changes
abbrev pub agent_of : Moment → Option Id
agent_of (Joins account deal) = Some account
agent_of (Signs account act) = Some account
agent_of (Hears account statement) = Some account
agent_of (Forgets account) = Some account
agent_of _ = None

abbrev pub agent_by : Option Id → Moment → Id → AgentState → AgentState
agent_by None moment own agent = agent
agent_by (Some account) moment own agent =
    if same_id account own then agent_after moment agent else agent

abbrev pub after : World → Moment → World
after w moment = record {
  genesis = w.genesis;
  ledgers = λ name. option_map (λ (ledger : LedgerState).
      record ledger { entries = ledger.entries ++ entries_by moment name }) (w.ledgers name);
  agents = λ own. option_map (agent_by (agent_of moment) moment own) (w.agents own);
  pool = stated_by moment ++ w.pool;
  texts = texts_of moment ++ w.texts;
  shown = shown_by moment ++ w.shown;
  entered = w.entered ++ entered_by moment;
}

abbrev pub after_all : List Moment → World → World
after_all [] w = w
after_all (moment ∷ rest) w = after_all rest (after w moment)

-- ---- what a node may do

-- a ledger settles an unsettled deal by a claim that certifies its outcome
pub record IsSettling (genesis : SetTold) (name : List ℕ) (ledger : LedgerState) (deal : Id)
    (claim : Claim) (decision : Decision) : Type 0 where
  pub next : IsNext name (book_in ledger) ledger.entries (Settlement deal decision.outcome)
  pub set : SetTold
  pub certifies : Certifies genesis claim set
  pub decides : outcome_of claim.recs deal ≡ Some decision

-- the vote is that of the party of that index, by a text of the deal that was carried
pub record IsVoteOf (w : World) (account : Id) (id : Id) (index : ℕ) : Type 0 where
  pub deal : DealTold
  pub read : IsRead w deal
  pub named : deal.id ≡ id
  pub party : index_of_account deal.parties account ≡ Some index

-- a seat takes starts of deals, and votes of their parties
abbrev pub IsEntry : World → Id → Act → Type 0
IsEntry w account (StartDeal text) = (deal : DealTold) × IsTextOf deal text
IsEntry w account (Vote id index choice) = IsVoteOf w account id index
IsEntry w account _ = ⊥

-- what an envelope of an act says is read so
pub record IsSaidAct (message : List ℕ) (act : Act) : Type 0 where
  pub bytes : AreBytes message
  pub reads : act_of Log message ≡ Ok act

-- an agent signs an act that it may sign, and no text twice
pub record IsSigning (account : Id) (agent : AgentState) (act : Act) : Type 0 where
  pub fits : ActFits act
  pub bytes : AreBytes (act_text act)
  pub fresh : Contains agent.texts (act_text act) → ⊥
  pub may : MaySign account agent act

abbrev pub IsStep : World → Moment → Type 0
IsStep w (Accepts name account q message) = (ledger : LedgerState)
    → w.ledgers name ≡ Some ledger
    → IsNext name (book_in ledger) ledger.entries (Accepted account q message)
IsStep w (Shows claim) = Unit {0}
IsStep w (Settles name deal claim decision) = (ledger : LedgerState)
    → w.ledgers name ≡ Some ledger → IsSettling w.genesis name ledger deal claim decision
IsStep w (States s) = (ledger : LedgerState) × (w.ledgers s.ledger ≡ Some ledger)
    × IsStatementOf ledger s
IsStep w (Joins account deal) = IsTextOf deal (deal_text deal)
IsStep w (Signs account act) = (agent : AgentState) → w.agents account ≡ Some agent
    → IsSigning account agent act
IsStep w (Hears account s) = Contains w.pool s
IsStep w (Forgets account) = Unit {0}
IsStep w (Carries text) = Unit {0}
IsStep w (Enters account q message act) = IsSaidAct message act × IsEntry w account act

abbrev pub IsRun : World → List Moment → Type 0
IsRun w [] = Unit {0}
IsRun w (moment ∷ rest) = IsStep w moment × IsRun (after w moment) rest

-- before the first moment
pub record IsOpening (w : World) : Type 0 where
  pub ledgers : (name : List ℕ) (ledger : LedgerState) → w.ledgers name ≡ Some ledger
      → IsHistory name ledger.rows [] × (ledger.entries ≡ [])
  pub joined : (account : Id) (agent : AgentState) → w.agents account ≡ Some agent
      → agent.joined ≡ []
  pub texts : (account : Id) (agent : AgentState) → w.agents account ≡ Some agent
      → agent.texts ≡ []
  pub heard : (account : Id) (agent : AgentState) → w.agents account ≡ Some agent
      → agent.heard ≡ []
  pub pool : w.pool ≡ []
  pub entered : w.entered ≡ []

-- ---- the premises

-- What a compliant party is said to have signed stands in its texts, under that key.
abbrev pub IsSigned : World → Id → ℕ → List ℕ → Type 0
IsSigned w account q message = (agent : AgentState) → w.agents account ≡ Some agent
    → slice_get agent.texts q ≡ Some message

abbrev pub IsUnforged : World → Moment → Type 0
IsUnforged w (Accepts name account q message) = IsSigned w account q message
IsUnforged w (Enters account q message act) = IsSigned w account q message
IsUnforged w _ = Unit {0}

abbrev pub AreUnforged : World → List Moment → Type 0
AreUnforged w [] = Unit {0}
AreUnforged w (moment ∷ rest) = IsUnforged w moment × AreUnforged (after w moment) rest

-- The premises of a run. That deal texts don't collide is asked once, of the world at its end.
pub record IsGiven (w : World) (run : List Moment) : Type 0 where
  pub unforged : AreUnforged w run
  pub one_text : HasOneText (after_all run w)
