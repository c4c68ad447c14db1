use Rattle.escrow_book.proofs.Fitting.{no_fault_of_whole}
use Rattle.escrow_book.proofs.laws.part_fits.Goals as goal

pub returns : goal.returns
returns c = no_fault_of_whole
