use Rattle.keeper_core.proofs.NumberedOn.{stands_under_number}
use Rattle.keeper_core.proofs.laws.stands_under_number.Goals as goal

pub returns : goal.returns
returns c = stands_under_number
