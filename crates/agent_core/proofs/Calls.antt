-- Calls of an agent are its steps.
use Rattle.std.proofs.Common.{◌≡◌, inl, inr, ℕ, Bool, true, false, if◌then◌else◌, List, Option, Some, None, Result, Ok, Err, refl, sym, ap, ◌∙◌}
use Rattle.dh_base.specs.declared.id.Id.{Id}
use Rattle.clear_core.specs.declared.terms.Terms.{Terms}
use Rattle.keeper_core.specs.Knowing.{Known}
use Rattle.key_ring.specs.declared.envelope.Envelope.{Envelope}
use Rattle.joined_deals.specs.declared.agent_fault.AgentFault.{AgentFault}
use Rattle.joined_deals.specs.Agents.{AgentTold, with_signed}
use Rattle.joined_deals.specs.AgentSteps.{AgentStep, stays}
use Rattle.joined_deals.specs.AgentCalls.{again_refusal, signed_if}
use Rattle.joined_deals.proofs.Calling.{calls_step}
use Rattle.agent_core.specs.declared.wanted.Wanted.TheVariants.{Act}
use Rattle.agent_core.specs.AgentSeen.{AgentSeen}
use Rattle.agent_core.specs.AgentDoes.{Gives, IsEnvelope, JoinsOrNot}
use Rattle.agent_core.specs.WantedTexts.{wanted_in}
use Rattle.agent_core.proofs.Doing.{step_of}
use Rattle.agent_core.proofs.Wanting.{given_before}

-- an act that is given again changes nothing
pub same_again : {K : Type 0} (old now : AgentSeen K) (deal : Id) (k : ℕ) (result : Result Envelope AgentFault) (before after : Known) → Gives (again_refusal old.agent deal k) (IsEnvelope old (wanted_in old.agent deal (Act k))) (wanted_in old.agent deal (Act k)) old now result before after → now.agent ≡ old.agent
same_again old now deal k (Ok env) before after gives =
    let signed = given_before old.agent deal k gives.reply.0 in
    ap (λ (s : AgentSeen _). s.agent) gives.moved
    ∙ (ap (signed_if old.agent) signed.1 ∙ ap (λ (b : Bool). if b then old.agent else with_signed old.agent signed.0) signed.2)
same_again old now deal k (Err fault) before after gives = ap (λ (s : AgentSeen _). s.agent) gives.unchanged

-- a deal is joined by a step
pub join_step : {K : Type 0} (text : List ℕ) (terms : Terms) (old now : AgentSeen K) (result : Result Id AgentFault) (before after : Known) → JoinsOrNot text terms old now result before after → AgentStep old.agent now.agent
join_step text terms old now result before after (inl j) = step_of _ _ _ _ old now result before after j.does (λ none. calls_step.joins old.agent text terms j.joined j.joinable)
join_step text terms old now result before after (inr r) = stays (ap (λ (s : AgentSeen _). s.agent) r.same)
