use Rattle.escrow_book.specs.declared.change.Change.TheVariants.{Registered, Escrowed, Paid, Settled}
use Rattle.escrow_book.proofs.Growing.{transfer_grows}
use Rattle.escrow_book.proofs.Steps.{reached_push}
use Rattle.escrow_book.proofs.laws.reached_grows.Goals as goal

pub returns-clause-register : goal.returns-clause-register
returns-clause-register c = λ h d parties r new good. reached_push h (Registered d parties) r (new, good)

pub returns-clause-escrow : goal.returns-clause-escrow
returns-clause-escrow c = λ h d p x n r free. reached_push h (Escrowed d p x n) r free

pub returns-clause-transfer : goal.returns-clause-transfer
returns-clause-transfer c = transfer_grows

pub returns-clause-pay : goal.returns-clause-pay
returns-clause-pay c = λ h from to x n r free. reached_push h (Paid from to x n) r free

pub returns-clause-settle : goal.returns-clause-settle
returns-clause-settle c = λ h d outcome r free. reached_push h (Settled d outcome) r free
