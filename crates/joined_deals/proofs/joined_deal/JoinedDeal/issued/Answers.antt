use Rattle.std.proofs.Common.{◌≡◌, length, ap, ◌∙◌, arith}
use Rattle.std.specs.List.{prefix_len}
use Rattle.joined_deals.specs.Signed.{is_signed}
use Rattle.joined_deals.specs.DealTexts.{JoinedTold, plan_texts}
use Rattle.joined_deals.proofs.joined_deal.JoinedDeal.issued.Goals as goal

pub overflow_cast-result : goal.overflow_cast-result
overflow_cast-result c =
    let same = ap length c.self.invariant.acts_are ∙ ap (λ (j : JoinedTold). length (plan_texts j)) c.self.view_is in
    let at = ap length c.deref.ensures.value in
    omega (arith, same, at, c.count_acts.ensures.count, c.count_acts.ensures.few, c.count_front.ensures.few)

pub returns : goal.returns
returns c = c.count_front.ensures.count ∙ ap (prefix_len (is_signed c.args.signer.now.texts)) (c.deref.ensures.value ∙ (c.self.invariant.acts_are ∙ ap plan_texts c.self.view_is))
