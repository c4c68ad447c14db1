use Rattle.escrow_book.proofs.Totals.{is_conserved}
use Rattle.escrow_book.proofs.Whole.{grown}
use Rattle.escrow_book.proofs.laws.conserved.Goals as goal

pub returns : goal.returns
returns c = λ h accounts x r its. is_conserved h accounts x r.whole (grown h r) its
