use Rattle.escrow_book.proofs.Whole.{grown}
use Rattle.escrow_book.proofs.Paying.{pays}
use Rattle.escrow_book.proofs.laws.settlement_pays.Goals as goal

pub returns : goal.returns
returns c = λ h d p x outcome r free. pays h d p x outcome (grown h r) free
