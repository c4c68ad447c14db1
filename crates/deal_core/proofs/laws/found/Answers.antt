use Rattle.deal_core.proofs.TextReading.{found}
use Rattle.deal_core.proofs.laws.found.Goals as goal

pub returns : goal.returns
returns c = found
