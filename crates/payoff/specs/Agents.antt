-- A compliant party: what it has joined, signed and heard, and what it may sign.
use Rattle.std.specs.Prelude.{ℕ, ◌≡◌, ◌<◌, ◌≤◌, ◌&&◌, Bool, if◌then◌else◌, Option, Some, None, List, [], ◌∷◌}
use Rattle.std.specs.List.{Contains, find}
use Rattle.std.specs.Str.{bytes_eq}
use Rattle.dh_base.specs.declared.id.Id.{Id}
use Rattle.dh_base.specs.Ids.{same_id}
use Rattle.dh_base.specs.declared.outcome.Outcome.TheVariants.{Commit, Abort}
use Rattle.act_text.specs.declared.act.Act.{Act}
use Rattle.act_text.specs.declared.act.Act.TheVariants.{Register, Pay, Escrow, Transfer, StartDeal, Vote}
use Rattle.act_text.specs.declared.statement.HeldRow.{HeldRow}
use Rattle.act_text.specs.declared.statement.Statement.{Statement}
use Rattle.deal_core.specs.Deals.{DealTold, index_of_account}
use Rattle.deal_core.specs.DealText.{deal_text}
use Rattle.clear_core.specs.Clearing.{due_of, turns_of}
use Rattle.clear_core.specs.Plans.{plan_of}
use Rattle.clear_core.specs.declared.plan_act.PlanAct.TheVariants as plan

-- the joined deals, the texts that the keys 0, 1, 2 and so on have signed, and the statements that
-- were heard since the agent was opened, the newest first
pub record AgentState : Type 0 where
  pub joined : List DealTold
  pub texts : List (List ℕ)
  pub heard : List Statement

-- ---- what an agent sees

abbrev pub is_about : Id → Id → List ℕ → Statement → Bool
is_about party deal ledger s =
    same_id party s.party && (same_id deal s.deal && bytes_eq ledger s.ledger)

-- the kept statement on the party in that deal, of that ledger
abbrev pub kept_of : List Statement → Id → Id → List ℕ → Option Statement
kept_of heard party deal ledger = find (is_about party deal ledger) heard

-- what the first row that names the asset lists
abbrev pub listed_of : List HeldRow → List ℕ → ℕ
listed_of [] asset = 0
listed_of (row ∷ rows) asset =
    if bytes_eq asset row.asset then row.amount else listed_of rows asset

-- The kept statement tells that the deal is open, that the party has made all its turns, and that
-- it gets at least its due of the asset on commit.
pub record IsSeen (party : Id) (heard : List Statement) (deal : DealTold) (index : ℕ)
    (ledger asset : List ℕ) : Type 0 where
  pub statement : Statement
  pub kept : kept_of heard party deal.id ledger ≡ Some statement
  pub open_yet : statement.settled ≡ None
  pub moved : statement.moves ≡ turns_of deal.steps index ledger
  pub covers : due_of deal.steps index ledger asset ≤ listed_of statement.rows asset

-- the account has joined the deal, in which it is the party of that index
pub record IsPartyOf (account : Id) (agent : AgentState) (deal : DealTold) (index : ℕ)
    : Type 0 where
  pub joined : Contains agent.joined deal
  pub party : index_of_account deal.parties account ≡ Some index

-- a joined deal of that id, of which all is seen that is due to the party
pub record IsValidated (account : Id) (agent : AgentState) (id : Id) (index : ℕ) : Type 0 where
  pub deal : DealTold
  pub named : deal.id ≡ id
  pub within : IsPartyOf account agent deal index
  pub seen : (ledger asset : List ℕ) → 0 < due_of deal.steps index ledger asset
      → IsSeen account agent.heard deal index ledger asset

-- ---- what an agent signs

-- the act is one of the party's plan in the deal, or starts the deal
abbrev pub IsOfPlan : DealTold → ℕ → Act → Type 0
IsOfPlan deal index (Register text) = text ≡ deal_text deal
IsOfPlan deal index (StartDeal text) = text ≡ deal_text deal
IsOfPlan deal index (Escrow within ledger asset amount) =
    (within ≡ deal.id) × Contains (plan_of deal.steps index) (plan.Escrow ledger asset amount)
IsOfPlan deal index (Transfer within ledger turn to asset amount) =
    (within ≡ deal.id) × ((receiver : ℕ)
    × Contains (plan_of deal.steps index) (plan.Transfer ledger turn receiver asset amount))
IsOfPlan deal index (Pay house ledger to asset amount) = ⊥
IsOfPlan deal index (Vote within own choice) = ⊥

-- the act is of the plan of a joined deal
pub record IsPlanned (account : Id) (agent : AgentState) (act : Act) : Type 0 where
  pub deal : DealTold
  pub index : ℕ
  pub within : IsPartyOf account agent deal index
  pub planned : IsOfPlan deal index act

-- An agent signs acts of plans, starts and votes of joined deals alone, and commits only to a deal
-- that it has validated. What else it looks at, no law needs: that all acts are signed before a
-- vote and none behind it, and that it never commits behind an abort.
abbrev pub MaySign : Id → AgentState → Act → Type 0
MaySign account agent (Vote id index Commit) = IsValidated account agent id index
MaySign account agent (Vote id index Abort) = Unit {0}
MaySign account agent (Pay house ledger to asset amount) = ⊥
MaySign account agent (Register text) = IsPlanned account agent (Register text)
MaySign account agent (StartDeal text) = IsPlanned account agent (StartDeal text)
MaySign account agent (Escrow within ledger asset amount) =
    IsPlanned account agent (Escrow within ledger asset amount)
MaySign account agent (Transfer within ledger turn to asset amount) =
    IsPlanned account agent (Transfer within ledger turn to asset amount)
