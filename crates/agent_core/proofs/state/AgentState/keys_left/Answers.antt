use Rattle.std.proofs.Common.{◌≡◌, ℕ, ◌-◌, ◌<◌, List, length, get_or, ap, subst, ◌∙◌}
use Rattle.joined_deals.specs.DealTexts.{JoinedTold}
use Rattle.agent_core.proofs.Counting.{fewer_left}
use Rattle.agent_core.proofs.state.AgentState.keys_left.Goals as goal

pub loop-joined-preserved : goal.loop-joined-preserved
loop-joined-preserved c =
    let signer = c.args.self.now.signer in
    let k = c.loop-joined.joined-index in
    let joined = c.joined-item.result in
    let value = c.deref-joined-items.ensures.value in
    let within = subst (λ (ds : List JoinedTold). k < length ds) value c.loop-joined-test.true in
    let is = subst (λ (ds : List JoinedTold). joined ≡ get_or ds k joined) value c.joined-item.is in
    c.saturating_sub-left.ensures
    ∙ (ap (λ (n : ℕ). c.loop-joined.left - n) c.unsigned.ensures.count
    ∙ fewer_left signer.texts c.args.self.now.deals.items k (signer.spec.size - length signer.texts) c.loop-joined.left joined within is c.loop-joined.invariant)
