use Rattle.plain_core.proofs.Members.{few_declared}
use Rattle.plain_core.proofs.world.World.vote.Goals as goal

pub vote-requires : goal.vote-requires
vote-requires c = few_declared c.args.declarations.now c.args.deal.now c.members.result.now c.members.ensures.value c.members.ensures.rules
