use Rattle.keeper_core.proofs.Batched.{others_stay}
use Rattle.keeper_core.proofs.laws.others_stay.Goals as goal

pub returns : goal.returns
returns c = others_stay
