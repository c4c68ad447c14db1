use Rattle.joined_deals.proofs.Calling.{calls_step}
use Rattle.joined_deals.proofs.laws.calls_are_steps.Goals as goal

pub returns : goal.returns
returns c = calls_step
