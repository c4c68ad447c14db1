use Rattle.std.proofs.Common.{rules, ◌≡◌, ℕ, List, slice_get, Some, sym, ap, ◌∙◌}
use Rattle.joined_deals.specs.DealTexts.{JoinedTold, plan_of_deal}
use Rattle.joined_deals.specs.Agents.{deal_joined}
use Rattle.agent_core.specs.AgentSeen.{agent_in}
use Rattle.agent_core.proofs.Wanting.{is_due}
use Rattle.agent_core.proofs.state.AgentState.next_due.Goals as goal

pub returns-clause-some : goal.returns-clause-some
returns-clause-some c =
    let joined = c.in_ok-joined.joined.now in
    let found : deal_joined c.args.self.now.deals.items c.args.deal.now ≡ Some joined = sym (c.in_ok-joined.ensures ∙ ap (λ (ds : List JoinedTold). deal_joined ds c.args.deal.now) c.deref.ensures.value) in
    let is : c.from.result ≡ c.issued-place.result = search rules in
    let there : slice_get (plan_of_deal joined) c.issued-place.result ≡ Some c.in_ok-act.act = ap (λ (k : ℕ). slice_get (plan_of_deal joined) k) (sym is) ∙ sym c.in_ok-act.ensures in
    is_due (agent_in c.args.self.now) c.args.deal.now joined (record { place = c.issued-place.result; act = c.in_ok-act.act }) found c.issued-place.ensures there
