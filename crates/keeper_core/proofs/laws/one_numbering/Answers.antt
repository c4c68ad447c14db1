use Rattle.keeper_core.proofs.NumberedOn.{one_numbering}
use Rattle.keeper_core.proofs.laws.one_numbering.Goals as goal

pub returns : goal.returns
returns c = one_numbering
