-- What each call of an agent answers, and what it leaves.
use Rattle.std.specs.Prelude.{ℕ, ◌≡◌, ◌⊎◌, if◌then◌else◌, List, [], ◌∷◌, Option, Some, None, is_some, IfErr, Result, Ok, Err, OnOk, OnErr}
use Rattle.std.specs.Option.{option_map}
use Rattle.dh_base.specs.declared.id.Id.{Id}
use Rattle.act_text.specs.declared.statement.Statement.{Statement}
use Rattle.clear_core.specs.declared.terms.Terms.{Terms}
use Rattle.keeper_core.specs.declared.change.Change.{Change}
use Rattle.keeper_core.specs.Knowing.{Known}
use Rattle.keeper_core.specs.Leaving.{failed, ended, Leaves}
use Rattle.keeper_core.specs.Stepping.{IsReply, Backs, Steps}
use Rattle.key_ring.specs.declared.envelope.Envelope.{Envelope}
use Rattle.key_ring.specs.UsedTexts.{batches_for}
use Rattle.joined_deals.specs.DealTexts.{JoinedTold}
use Rattle.joined_deals.specs.declared.agent_fault.AgentFault.{AgentFault}
use Rattle.joined_deals.specs.AgentFaults.{of_agent_fault}
use Rattle.joined_deals.specs.Agents.{AgentTold, with_deal}
use Rattle.joined_deals.specs.AgentCalls.{IsJoinable, IsJoinFault, signed_if, next_in, hear_refusal, newer_kept, heard_if}
use Rattle.agent_core.specs.declared.heard.Heard.{Heard}
use Rattle.agent_core.specs.declared.heard.Heard.TheVariants.{Kept, Older}
use Rattle.agent_core.specs.declared.todo.Todo.{Todo}
use Rattle.agent_core.specs.declared.todo.Todo.TheVariants.{Give, Nothing}
use Rattle.agent_core.specs.AgentSeen.{AgentSeen, signer_of, envelope_for, act_in}
use Rattle.agent_core.specs.AgentTables.{IsState, deal_changes}

-- the batches of a call, and none where it is refused
abbrev pub unless_refused : Option AgentFault → List (List Change) → List (List Change)
unless_refused refusal batches = if is_some refusal then [] else batches

-- The call is refused, or answered so, and the agent is then the next one. Its keeper is left as
-- the batches leave it, and its tables stand for the agent, also where the keeper stopped.
pub record Does {K A : Type 0} (refusal : Option AgentFault) (IsAnswer : A → Type 0)
    (next : AgentTold) (batches : List (List Change)) (old now : AgentSeen K)
    (result : Result A AgentFault) (before after : Known) : Type 0 where
  pub reply : IsReply of_agent_fault refusal IsAnswer result
  pub moved : OnOk result (now ≡ record old { keeper = now.keeper; agent = next })
  pub unchanged : OnErr result (now ≡ record old { keeper = now.keeper })
  pub leaves : Leaves (unless_refused refusal batches) (ended of_agent_fault result) before after
  pub stands : Backs IsState before.tables old.agent
      → Steps IsState of_agent_fault refusal IsAnswer old.agent next result before after

-- ---- signing

abbrev pub batches_if : {K : Type 0} → AgentSeen K → Option (List ℕ) → List (List Change)
batches_if seen None = []
batches_if seen (Some text) = batches_for (signer_of seen) text

-- The call gives the text, which is signed then, if it was not before.
abbrev pub Gives : {K A : Type 0} → Option AgentFault → (A → Type 0) → Option (List ℕ)
    → AgentSeen K → AgentSeen K → Result A AgentFault → Known → Known → Type 0
Gives refusal IsAnswer text old =
    Does refusal IsAnswer (signed_if old.agent text) (batches_if old text) old

-- it is the envelope of the text
abbrev pub IsEnvelope : {K : Type 0} → AgentSeen K → Option (List ℕ) → Envelope → Type 0
IsEnvelope seen text env = Some env ≡ option_map (envelope_for seen) text

-- the envelope of the text, if there is one
abbrev pub IsEnvelopeIf : {K : Type 0} → AgentSeen K → Option (List ℕ) → Option Envelope → Type 0
IsEnvelopeIf seen text env = env ≡ option_map (envelope_for seen) text

-- the next act with its envelope; or that there is none
abbrev pub IsTodo : {K : Type 0} → AgentSeen K → Id → Todo → Type 0
IsTodo seen deal (Give act env) =
    (act_in seen.agent deal ≡ Some act) × IsEnvelope seen (next_in seen.agent deal) env
IsTodo seen deal Nothing = next_in seen.agent deal ≡ None

-- ---- joining

-- The deal may be joined, and the keeper is asked to keep it.
pub record JoinsDeal {K : Type 0} (text : List ℕ) (terms : Terms) (old now : AgentSeen K)
    (result : Result Id AgentFault) (before after : Known) : Type 0 where
  pub joined : JoinedTold
  pub joinable : IsJoinable old.agent text terms joined
  pub does : Does None (λ id. id ≡ joined.deal.id) (with_deal old.agent joined)
      (deal_changes joined ∷ []) old now result before after

-- The deal is refused, and all is as before.
pub record RefusesDeal {K : Type 0} (text : List ℕ) (terms : Terms) (old now : AgentSeen K)
    (result : Result Id AgentFault) : Type 0 where
  pub fault : AgentFault
  pub answer : result ≡ Err fault
  pub cause : IsJoinFault old.agent text terms fault
  pub unfailed : of_agent_fault fault ≡ failed → ⊥
  pub same : now ≡ old

abbrev pub JoinsOrNot : {K : Type 0} → List ℕ → Terms → AgentSeen K → AgentSeen K
    → Result Id AgentFault → Known → Known → Type 0
JoinsOrNot text terms old now result before after =
    JoinsDeal text terms old now result before after ⊎ RefusesDeal text terms old now result

-- ---- hearing

abbrev pub IsHeard : AgentTold → Statement → Heard → Type 0
IsHeard agent statement Kept = newer_kept agent statement ≡ None
IsHeard agent statement (Older at) = newer_kept agent statement ≡ Some at

-- The statement is kept, or an older one, or it is refused.
pub record HearsOrNot (statement : Statement) (old now : AgentTold)
    (result : Result Heard AgentFault) : Type 0 where
  pub reply : IsReply of_agent_fault (hear_refusal old statement) (IsHeard old statement) result
  pub unfailed : IfErr result (λ fault. of_agent_fault fault ≡ failed → ⊥)
  pub moved : OnOk result (now ≡ heard_if old statement (newer_kept old statement))
  pub unchanged : OnErr result (now ≡ old)
