use Rattle.escrow_book.proofs.Steps.{base_of}
use Rattle.escrow_book.proofs.Whole.{grown}
use Rattle.escrow_book.proofs.Cut.{nothing_is_cut}
use Rattle.escrow_book.proofs.laws.nothing_cut.Goals as goal

pub returns : goal.returns
returns c = λ h r. nothing_is_cut (base_of h) h.changes (grown h r)
