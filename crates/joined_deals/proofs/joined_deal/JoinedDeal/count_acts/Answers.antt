use Rattle.std.proofs.Common.{◌≡◌, ◌≤◌, length, ap, ◌∙◌, arith}
use Rattle.joined_deals.specs.DealTexts.{JoinedTold, plan_texts}
use Rattle.joined_deals.specs.TextsKept.{joined_told}
use Rattle.joined_deals.proofs.PlanSizes.{short_plan}
use Rattle.joined_deals.proofs.joined_deal.JoinedDeal.count_acts.Goals as goal

pub overflow_cast-result : goal.overflow_cast-result
overflow_cast-result c =
    let short = short_plan (joined_told c.self.inside.deal c.self.inside.index c.self.inside.deadline) c.kept.ensures in
    let same = ap length c.self.invariant.acts_are in
    omega (arith, short, same, c.len.ensures, c.self.inside.acts.ok)

pub returns-clause-count : goal.returns-clause-count
returns-clause-count c =
    let count : c.len.result ≡ length c.self.inside.acts.items = omega (arith, c.len.ensures, c.self.inside.acts.ok) in
    count ∙ (ap length c.self.invariant.acts_are ∙ ap (λ (j : JoinedTold). length (plan_texts j)) c.self.view_is)

pub returns-clause-few : goal.returns-clause-few
returns-clause-few c =
    let short = short_plan (joined_told c.self.inside.deal c.self.inside.index c.self.inside.deadline) c.kept.ensures in
    let same = ap length c.self.invariant.acts_are in
    omega (arith, short, same, c.len.ensures, c.self.inside.acts.ok)
