use Rattle.escrow_book.proofs.Whole.{grown}
use Rattle.escrow_book.proofs.laws.whole_is_grown.Goals as goal

pub returns : goal.returns
returns c = grown
