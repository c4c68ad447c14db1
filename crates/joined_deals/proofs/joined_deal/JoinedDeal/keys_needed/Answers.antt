use Rattle.std.proofs.Common.{arith}
use Rattle.joined_deals.proofs.PlanSizes.{length_texts}
use Rattle.joined_deals.proofs.joined_deal.JoinedDeal.keys_needed.Goals as goal

pub returns : goal.returns
returns c = omega (arith, c.count_acts.ensures.count, length_texts c.args.self.now)
