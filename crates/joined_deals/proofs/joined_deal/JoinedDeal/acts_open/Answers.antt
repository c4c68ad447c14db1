use Rattle.std.proofs.Common.{◌≡◌, length, ap, ◌∙◌, arith}
use Rattle.std.specs.List.{count_by}
use Rattle.joined_deals.specs.Signed.{is_unsigned}
use Rattle.joined_deals.specs.DealTexts.{JoinedTold, plan_texts}
use Rattle.joined_deals.proofs.joined_deal.JoinedDeal.acts_open.Goals as goal

pub overflow_cast-result : goal.overflow_cast-result
overflow_cast-result c =
    let same = ap length c.self.invariant.acts_are ∙ ap (λ (j : JoinedTold). length (plan_texts j)) c.self.view_is in
    let at = ap length c.deref.ensures.value in
    omega (arith, same, at, c.count_acts.ensures.count, c.count_acts.ensures.few, c.count_unsigned.ensures.few)

pub returns-clause-count : goal.returns-clause-count
returns-clause-count c = c.count_unsigned.ensures.count ∙ ap (count_by (is_unsigned c.args.signer.now.texts)) (c.deref.ensures.value ∙ (c.self.invariant.acts_are ∙ ap plan_texts c.self.view_is))

pub returns-clause-few : goal.returns-clause-few
returns-clause-few c =
    let same = ap length c.self.invariant.acts_are ∙ ap (λ (j : JoinedTold). length (plan_texts j)) c.self.view_is in
    let at = ap length c.deref.ensures.value in
    omega (arith, same, at, c.count_acts.ensures.count, c.count_acts.ensures.few, c.count_unsigned.ensures.few)
