use Rattle.ledger_acts.proofs.part_rows.read_part.Goals as goal

pub returns-in-Payment : goal.returns-in-Payment
returns-in-Payment g c = rw c.in-Payment.is c.read_payment_part.ensures

pub returns-in-Escrow : goal.returns-in-Escrow
returns-in-Escrow g c = rw c.in-Escrow.is c.read_escrow_part.ensures

pub returns-in-Transfer : goal.returns-in-Transfer
returns-in-Transfer g c = rw c.in-Transfer.is c.read_transfer_part.ensures
