use Rattle.plain_core.proofs.Members.{several_declared, few_declared}
use Rattle.plain_core.proofs.world.World.start_deal.Goals as goal

pub start_deal-requires-clause-several : goal.start_deal-requires-clause-several
start_deal-requires-clause-several c = several_declared c.args.declarations.now c.args.deal.now c.members.result.now c.members.ensures.value c.members.ensures.rules

pub start_deal-requires-clause-few : goal.start_deal-requires-clause-few
start_deal-requires-clause-few c = few_declared c.args.declarations.now c.args.deal.now c.members.result.now c.members.ensures.value c.members.ensures.rules
