use Rattle.std.proofs.Common.{rules, ◌≡◌, ℕ, Option, None, sym, subst, ◌∙◌}
use Rattle.joined_deals.specs.declared.agent_fault.AgentFault.{AgentFault}
use Rattle.joined_deals.specs.AgentCalls.{again_refusal}
use Rattle.agent_core.specs.declared.wanted.Wanted.TheVariants.{Act}
use Rattle.agent_core.specs.AgentSeen.{agent_in, seen_in}
use Rattle.agent_core.specs.AgentDoes.{Gives, IsEnvelope}
use Rattle.agent_core.specs.WantedTexts.{wanted_in, wanted_refusal}
use Rattle.agent_core.proofs.Wanting.{given_before, wanted_free}
use Rattle.agent_core.proofs.signing.give_again.Goals as goal

pub returns-clause-gives : goal.returns-clause-gives
returns-clause-gives g c =
    let agent = agent_in c.args.state.now in
    let deal = c.args.deal.now in
    let free : again_refusal agent deal c.args.place ≡ None = sym c.in_default.ensures in
    let signed = given_before agent deal c.args.place free in
    let ready = wanted_free agent deal (Act c.args.place) signed.0 signed.1 in
    let old = seen_in c.args.keeper.now c.args.state.now in
    let now = seen_in c.give_text.new.keeper c.give_text.new.state in
    let before = g.K.Keeper.known c.args.keeper.now in
    let after = g.K.Keeper.known c.give_text.new.keeper in
    let is : c.from.result ≡ c.args.place = search rules in
    let given = subst (λ (k : ℕ). Gives (wanted_refusal agent deal (Act k)) (IsEnvelope old (wanted_in agent deal (Act k))) (wanted_in agent deal (Act k)) old now c.give_text.result before after) is c.give_text.ensures.gives in
    subst (λ (refusal : Option AgentFault). Gives refusal (IsEnvelope old (wanted_in agent deal (Act c.args.place))) (wanted_in agent deal (Act c.args.place)) old now c.give_text.result before after) (ready ∙ sym free) given
