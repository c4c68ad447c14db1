-- What opening an agent answers, and what it leaves.
use Rattle.std.specs.Prelude.{ℕ, ◌≡◌, Bool, false, List, [], ◌∷◌, Option, Some, None, IfSome, IfOk, Result, Ok, Err}
use Rattle.std.specs.FinMap.{empty}
use Rattle.sha2.specs.Sha256.{sha256}
use Rattle.dh_base.specs.declared.id.Id.{Id}
use Rattle.dh_base.specs.Ids.{same_id}
use Rattle.keeper_core.specs.declared.change.Change.{Change}
use Rattle.keeper_core.specs.declared.store_fault.StoreFault.{StoreFault}
use Rattle.keeper_core.specs.declared.store_fault.StoreFault.TheVariants as store
use Rattle.keeper_core.specs.Tables.{Tables, rows_of}
use Rattle.keeper_core.specs.Knowing.{Known}
use Rattle.keeper_core.specs.Leaving.{ended}
use Rattle.keeper_core.specs.Stepping.{LeavesBy, IsReply, Backs}
use Rattle.keeper_core.specs.StoreFaults.{HasCause}
use Rattle.key_ring.specs.declared.key_spec.KeySpec.{KeySpec}
use Rattle.key_ring.specs.Rings.{ring_text}
use Rattle.key_ring.specs.Making.{ring_made}
use Rattle.key_ring.specs.UsedTexts.{IsBacked}
use Rattle.key_ring.specs.UsedTexts as used
use Rattle.joined_deals.specs.Agents.{AgentTold, HasKeys, IsOpenedAgain}
use Rattle.joined_deals.specs.AgentSteps.{IsFirst}
use Rattle.agent_core.specs.declared.agent_open_fault.AgentOpenFault.{AgentOpenFault}
use Rattle.agent_core.specs.declared.agent_open_fault.AgentOpenFault.TheVariants.{OtherAgent, Store}
use Rattle.agent_core.specs.declared.loading.Loaded.{Loaded}
use Rattle.agent_core.specs.declared.refused.AgentRefused.{AgentRefused}
use Rattle.agent_core.specs.declared.state.AgentState.{AgentState}
use Rattle.agent_core.specs.AgentOpenFaults.{of_open_fault}
use Rattle.agent_core.specs.AgentSeen.{AgentSeen, agent_in}
use Rattle.agent_core.specs.AgentTables.{deal_tab, identity_of, form_changes, IsState}
use Rattle.agent_core.specs.AgentRows.{form_said, named_if, AreRowsOf, LacksForm}

-- the account of a ring
abbrev pub account_for : KeySpec → Id
account_for spec = record { 0 = sha256 (ring_text (ring_made spec.seed spec.ident spec.size)) }

-- The agent is that of the ring, in that house.
pub record IsAgentOf (spec : KeySpec) (house : Id) (agent : AgentTold) : Type 0 where
  pub account : agent.account ≡ account_for spec
  pub size : agent.size ≡ spec.size
  pub housed : agent.house ≡ house

-- What was read of the tables: the agent that they have, and whether they name it.
pub record IsLoaded (spec : KeySpec) (house : Id) (known : Known) (loaded : Loaded) : Type 0 where
  pub spec_is : loaded.state.signer.spec ≡ spec
  pub account : loaded.state.account ≡ account_for spec
  pub housed : loaded.state.house ≡ house
  pub heard : loaded.state.heard.items ≡ []
  pub named : IfSome known.tables (λ tables.
      form_said tables ≡ named_if (identity_of house (account_for spec)) loaded.named)
  pub signed : IfSome known.tables (λ tables.
      used.StandsFor tables loaded.state.signer.texts)
  pub backed : IsBacked known loaded.state.signer.texts
  pub rows : IfSome known.tables (λ tables.
      AreRowsOf house (account_for spec) (rows_of deal_tab tables) loaded.state.deals.items)
  pub keys : HasKeys (agent_in loaded.state)

-- tables that name no agent are named
abbrev pub batches_for : Id → Id → Option (Option Id) → List (List Change)
batches_for house account (Some None) = form_changes house account ∷ []
batches_for house account _ = []

abbrev pub open_batches : KeySpec → Id → Tables → List (List Change)
open_batches spec house tables = batches_for house (account_for spec) (form_said tables)

-- ---- why an agent is not opened

-- The tables name another agent; or the row that is named lacks its form.
abbrev pub OpenCause : KeySpec → Id → Option Tables → AgentOpenFault → Type 0
OpenCause spec house told (OtherAgent kept) =
    IfSome told (λ tables. form_said tables ≡ Some (Some kept))
    × (same_id kept (identity_of house (account_for spec)) ≡ false)
OpenCause spec house told (Store fault) =
    HasCause (LacksForm house (account_for spec) spec.size told) told fault

-- ---- what is opened

-- the agent, or why it is not opened
abbrev pub agent_of : {K : Type 0} → Result (AgentSeen K) (AgentRefused K)
    → Result AgentTold AgentOpenFault
agent_of (Ok seen) = Ok seen.agent
agent_of (Err refused) = Err refused.fault

abbrev pub agent_if : Result AgentState AgentOpenFault → Result AgentTold AgentOpenFault
agent_if (Ok state) = Ok (agent_in state)
agent_if (Err fault) = Err fault

-- the keeper, with the agent or with the refusal
abbrev pub kept_by : {K : Type 0} → Result (AgentSeen K) (AgentRefused K) → K
kept_by (Ok seen) = seen.keeper
kept_by (Err refused) = refused.keeper

-- The agent is the one that the tables stand for, and has heard nothing.
pub record IsOpened (spec : KeySpec) (house : Id) (told : Option Tables) (agent : AgentTold) :
    Type 0 where
  pub of : IsAgentOf spec house agent
  pub state : IfSome told (λ tables. IsState tables agent)
  pub heard : agent.heard ≡ []

-- What was kept is opened: tables that stand for an agent give it again, and are left so.
abbrev pub OpensKept : KeySpec → Id → Result AgentTold AgentOpenFault → Known → Known → Type 0
OpensKept spec house result before after =
    (agent : AgentTold) → IsAgentOf spec house agent → Backs IsState before.tables agent →
    IfSome after.tables (λ _. IsReply of_open_fault None (IsOpenedAgain agent) result)
    × Backs IsState after.tables agent

-- On empty tables an agent is opened that has joined, signed and heard nothing.
abbrev pub OpensEmpty : Result AgentTold AgentOpenFault → Known → Known → Type 0
OpensEmpty result before after =
    before.tables ≡ Some empty → IfOk result (λ agent. IfSome after.tables (λ _. IsFirst agent))

pub record Opens (spec : KeySpec) (house : Id) (result : Result AgentTold AgentOpenFault)
    (before after : Known) : Type 0 where
  pub leaves : LeavesBy (open_batches spec house) (ended of_open_fault result) before after
  pub opened : IfOk result (IsOpened spec house after.tables)
  pub kept : OpensKept spec house result before after
  pub empty : OpensEmpty result before after
