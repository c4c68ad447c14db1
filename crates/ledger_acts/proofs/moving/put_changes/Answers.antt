use Rattle.ledger_acts.proofs.moving.put_changes.Goals as goal

pub returns-in-Payment : goal.returns-in-Payment
returns-in-Payment c = rw c.in-Payment.is c.put_payment.ensures

pub returns-in-Escrow : goal.returns-in-Escrow
returns-in-Escrow c = rw c.in-Escrow.is c.put_escrow.ensures

pub returns-in-Transfer : goal.returns-in-Transfer
returns-in-Transfer c = rw c.in-Transfer.is c.put_transfer.ensures
