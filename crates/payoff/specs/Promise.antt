-- What holds of a house at the end of every run.
use Rattle.std.specs.Prelude.{ℕ, ◌≡◌, ◌+◌, ◌<◌, ◌≤◌, ◌⊎◌, IsTrue, Some, None, List, [], ◌∷◌, ◌++◌, length}
use Rattle.std.specs.List.{Contains}
use mathlib.Core.List.{IsPrefix}
use Rattle.dh_base.specs.declared.id.Id.{Id}
use Rattle.dh_base.specs.declared.outcome.Outcome.{Outcome}
use Rattle.dh_base.specs.declared.outcome.Outcome.TheVariants.{Commit, Abort}
use Rattle.act_text.specs.declared.act.Act.TheVariants.{Vote}
use Rattle.act_text.specs.ActTexts.{act_text}
use Rattle.deal_core.specs.Deals.{DealTold, index_of_account}
use Rattle.deal_core.specs.Reading.{IsTextOf}
use Rattle.clear_core.specs.Clearing.{need_of, due_of}
use Rattle.escrow_book.specs.History.{free_of, payout_of, if_abort_of, is_known, settlement_of}
use Rattle.escrow_book.specs.Conserved.{AreItsAccounts, IsConserved}
use Rattle.ledger_rows.specs.declared.entry.Entry.{Entry}
use Rattle.ledger_rows.specs.declared.entry.Entry.TheVariants.{Settlement}
use Rattle.ledger_rows.specs.Entries.{book_of, registration_of}
use Rattle.vote_log.specs.Entry.{Entry as Rec}
use Rattle.vote_log.specs.declared.kind.Kind.TheVariants as kind
use Rattle.vote_log.specs.Places.{HoldsAt, IsFirstStart}
use Rattle.vote_log.specs.Deciding.{outcome_of}
use Rattle.vote_log.specs.declared.decision.Decision.{Decision}
use Rattle.cert_core.specs.Sets.{SetTold}
use Rattle.claim_core.specs.declared.claim.Claim.{Claim}
use Rattle.claim_core.specs.Certificates.{Certifies}
use Rattle.payoff.specs.Agents.{AgentState}
use Rattle.payoff.specs.Worlds.{World, LedgerState, book_in}

-- Lists that quorums certified in the run, among them the records of each shown claim that
-- certifies, with what the laws of one log say of them: one begins the other, and each record of
-- them was entered by a compliant seat.
pub record HasCertified (w : World) (certified : List (List Rec)) : Type 0 where
  pub one_log : (log other : List Rec) → Contains certified log → Contains certified other
      → IsPrefix log other ⊎ IsPrefix other log
  pub entered : (log : List Rec) (entry : Rec) → Contains certified log → Contains log entry
      → Contains w.entered entry
  pub claims : (claim : Claim) (set : SetTold) → Contains w.shown claim
      → Certifies w.genesis claim set → Contains certified claim.recs

-- none of the lists is longer
pub record IsLongest (certified : List (List Rec)) (log : List Rec) : Type 0 where
  pub certified_is : Contains certified log
  pub longest : (other : List Rec) → Contains certified other → length other ≤ length log

-- the history of the ledger of that name settles the deal behind `before`
pub record IsSettledIn (w : World) (name : List ℕ) (deal : Id) (outcome : Outcome)
    (before : List Entry) : Type 0 where
  pub ledger : LedgerState
  pub here : w.ledgers name ≡ Some ledger
  pub rest : List Entry
  pub parts : before ++ Settlement deal outcome ∷ rest ≡ ledger.entries

-- The ledger of that name has these entries, and perhaps more behind them.
pub record IsFrontIn (w : World) (name : List ℕ) (front : List Entry) : Type 0 where
  pub ledger : LedgerState
  pub here : w.ledgers name ≡ Some ledger
  pub rest : List Entry
  pub parts : front ++ rest ≡ ledger.entries

-- The entries register the deal of that id, in which the account is the party of that index, and
-- the account is a compliant party's.
pub record IsCompliantIn (w : World) (front : List Entry) (id : Id) (index : ℕ) (account : Id)
    : Type 0 where
  pub registrant : Id
  pub text : List ℕ
  pub registered : registration_of front id ≡ Some (registrant, text)
  pub deal : DealTold
  pub reads : IsTextOf deal text
  pub party : index_of_account deal.parties account ≡ Some index
  pub agent : AgentState
  pub complies : w.agents account ≡ Some agent

-- the party has joined the deal and signed its commit
pub record HasCommitted (agent : AgentState) (deal : DealTold) (id : Id) (index : ℕ)
    : Type 0 where
  pub joined : Contains agent.joined deal
  pub signed : Contains agent.texts (act_text (Vote id index Commit))

-- nothing, or the need
abbrev pub IsEscrow : DealTold → ℕ → List ℕ → List ℕ → ℕ → Type 0
IsEscrow deal index name asset amount =
    (amount ≡ 0) ⊎ (amount ≡ need_of deal.steps index name asset)

-- ---- acceptance

-- The log aborts the deal, or has decided it before: behind its first start stands an abort by an
-- index of the deal.
pub record HoldsAbort (log : List Rec) (deal : Id) : Type 0 where
  pub start : ℕ
  pub parties : ℕ
  pub started : IsFirstStart log deal start parties
  pub place : ℕ
  pub behind : start < place
  pub index : ℕ
  pub here : HoldsAt log place kind.Abort index deal
  pub party : index < parties

-- The ledger has registered the deal and not settled it, and the records decide it. So a ledger
-- answers a claim that certifies them by this outcome.
pub record IsDue (ledger : LedgerState) (deal : Id) (recs : List Rec) : Type 0 where
  pub registered : IsTrue (is_known (book_in ledger) deal)
  pub open_yet : settlement_of (book_in ledger) deal ≡ None
  pub decision : Decision
  pub decides : outcome_of recs deal ≡ Some decision

-- ---- the promise

pub record IsSafe (w : World) (certified : List (List Rec)) : Type 0 where
  -- each settlement has the outcome of the certified log
  pub by_log : (name : List ℕ) (deal : Id) (outcome : Outcome) (before : List Entry)
      (log : List Rec) → IsSettledIn w name deal outcome before → IsLongest certified log
      → (at : ℕ) × (outcome_of log deal ≡ Some (record { outcome = outcome; at = at }))
  -- no two ledgers settle a deal differently
  pub agree : (name other : List ℕ) (deal : Id) (outcome second : Outcome)
      (before earlier : List Entry) → IsSettledIn w name deal outcome before
      → IsSettledIn w other deal second earlier → outcome ≡ second
  -- what a settlement pays, to any account, comes to what it can spend
  pub paid : (name : List ℕ) (deal : Id) (outcome : Outcome) (before : List Entry)
      (account : Id) (asset : List ℕ) (s : IsSettledIn w name deal outcome before)
      → free_of (book_of s.ledger.rows (before ++ Settlement deal outcome ∷ [])) account asset
      ≡ free_of (book_of s.ledger.rows before) account asset
      + payout_of (book_of s.ledger.rows before) deal outcome account asset
  -- on a ledger that commits, a compliant party has signed its commit, and is paid at least its due
  pub committed : (name : List ℕ) (id : Id) (index : ℕ) (account : Id) (before : List Entry)
      → IsSettledIn w name id Commit before → (c : IsCompliantIn w before id index account)
      → HasCommitted c.agent c.deal id index
  pub commit_pays : (name : List ℕ) (id : Id) (index : ℕ) (account : Id) (asset : List ℕ)
      (before : List Entry) (s : IsSettledIn w name id Commit before)
      (c : IsCompliantIn w before id index account)
      → due_of c.deal.steps index name asset
      ≤ payout_of (book_of s.ledger.rows before) id Commit account asset
  -- on one that aborts each is paid exactly its escrow; a compliant party's is nothing or its need
  pub abort_returns : (name : List ℕ) (id : Id) (account : Id) (asset : List ℕ)
      (before : List Entry) (s : IsSettledIn w name id Abort before)
      → payout_of (book_of s.ledger.rows before) id Abort account asset
      ≡ if_abort_of (book_of s.ledger.rows before) id account asset
  pub escrows : (name : List ℕ) (id : Id) (index : ℕ) (account : Id) (asset : List ℕ)
      (front : List Entry) (f : IsFrontIn w name front) (c : IsCompliantIn w front id index account)
      → IsEscrow c.deal index name asset
      (if_abort_of (book_of f.ledger.rows front) id account asset)
  -- nothing is created or lost on any ledger at any moment
  pub conserved : (name : List ℕ) (front : List Entry) (accounts : List Id) (asset : List ℕ)
      (f : IsFrontIn w name front) → AreItsAccounts (book_of f.ledger.rows front) accounts
      → IsConserved (book_of f.ledger.rows front) accounts asset
