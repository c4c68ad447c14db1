use Rattle.std.proofs.Common.{arith}
use Rattle.joined_deals.proofs.PlanSizes.{unsigned_parts}
use Rattle.joined_deals.proofs.joined_deal.JoinedDeal.unsigned.Goals as goal

pub returns-clause-count : goal.returns-clause-count
returns-clause-count c =
    omega (arith, unsigned_parts c.args.signer.now.texts c.args.self.now, c.start_weight-start.ensures.weight, c.vote_weight-commit.ensures.weight, c.vote_weight-abort.ensures.weight, c.acts_open.ensures.count)
