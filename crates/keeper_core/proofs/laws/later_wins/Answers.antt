use Rattle.keeper_core.proofs.Batched.{later_wins}
use Rattle.keeper_core.proofs.laws.later_wins.Goals as goal

pub returns : goal.returns
returns c = later_wins
