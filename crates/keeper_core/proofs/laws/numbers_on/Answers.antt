use Rattle.keeper_core.proofs.NumberedOn.{numbers_on}
use Rattle.keeper_core.proofs.laws.numbers_on.Goals as goal

pub returns : goal.returns
returns c = numbers_on
