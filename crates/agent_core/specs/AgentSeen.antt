-- What an agent is seen as, and the envelopes that it gives.
use Rattle.std.specs.Prelude.{ℕ, ◌≡◌, List, slice_get, Option, Some, None}
use Rattle.std.specs.Option.{option_map, option_and_then}
use Rattle.dh_base.specs.declared.id.Id.{Id}
use Rattle.clear_core.specs.declared.plan_act.PlanAct.{PlanAct}
use Rattle.keeper_core.specs.Knowing.{Known}
use Rattle.key_ring.specs.declared.envelope.Envelope.{Envelope}
use Rattle.key_ring.specs.declared.key_spec.KeySpec.{KeySpec}
use Rattle.key_ring.specs.Signers.{SignerTold, signer_account, key_for, envelope_by}
use Rattle.key_ring.specs.UsedTexts.{IsBacked}
use Rattle.joined_deals.specs.DealTexts.{plan_of_deal}
use Rattle.joined_deals.specs.Signed.{issued_of}
use Rattle.joined_deals.specs.Agents.{AgentTold, deal_joined, HasKeys}
use Rattle.joined_deals.specs.AgentCalls.{next_in}
use Rattle.agent_core.specs.declared.state.AgentState.{AgentState}
use Rattle.agent_core.specs.declared.state.Due.{Due}
use Rattle.agent_core.specs.declared.wanted.Wanted.TheVariants.{Act}
use Rattle.agent_core.specs.WantedTexts.{wanted_in}

-- An agent over a keeper, with what its ring is made from.
pub record AgentSeen (K : Type 0) : Type 0 where
  pub keeper : K
  pub spec : KeySpec
  pub agent : AgentTold

-- the agent of that state
abbrev pub agent_in : AgentState → AgentTold
agent_in state = record {
  account = state.account;
  size = state.signer.spec.size;
  house = state.house;
  joined = state.deals.items;
  signed = state.signer.texts;
  heard = state.heard.items;
}

abbrev pub seen_in : {K : Type 0} → K → AgentState → AgentSeen K
seen_in keeper state =
    record { keeper = keeper; spec = state.signer.spec; agent = agent_in state }

-- What every agent keeps to: its keeper has the texts that are signed, the account is that of its
-- ring, and the keys suffice.
pub record KeepsUp (known : Known) (state : AgentState) : Type 0 where
  pub backed : IsBacked known state.signer.texts
  pub account : state.account.0 ≡ signer_account state.signer
  pub keys : HasKeys (agent_in state)

-- its signer
abbrev pub signer_of : {K : Type 0} → AgentSeen K → SignerTold
signer_of seen = record { spec = seen.spec; texts = seen.agent.signed }

-- the envelope in which it gives the text
abbrev pub envelope_for : {K : Type 0} → AgentSeen K → List ℕ → Envelope
envelope_for seen text = envelope_by (signer_of seen) (key_for (signer_of seen) text) text

-- the next act of the plan of a joined deal
abbrev pub act_in : AgentTold → Id → Option PlanAct
act_in agent deal =
    option_and_then (λ joined. slice_get (plan_of_deal joined) (issued_of agent.signed joined))
    (deal_joined agent.joined deal)

-- It is the next act, and its place.
pub record IsDue (agent : AgentTold) (deal : Id) (due : Due) : Type 0 where
  pub act : act_in agent deal ≡ Some due.act
  pub text : List ℕ
  pub wanted : wanted_in agent deal (Act due.place) ≡ Some text
  pub next : next_in agent deal ≡ Some text
