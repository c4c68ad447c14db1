use Rattle.deal_core.proofs.TextAgain.{text_again}
use Rattle.deal_core.proofs.laws.only.Goals as goal

pub returns : goal.returns
returns c = text_again
