use Rattle.ledger_acts.proofs.moving.make.Goals as goal

pub returns-in-Payment-clause-ok : goal.returns-in-Payment-clause-ok
returns-in-Payment-clause-ok c = rw c.in-Payment.is c.pay.ensures.ok

pub returns-in-Payment-clause-refused : goal.returns-in-Payment-clause-refused
returns-in-Payment-clause-refused c = rw c.in-Payment.is c.pay.ensures.refused

pub returns-in-Escrow-clause-ok : goal.returns-in-Escrow-clause-ok
returns-in-Escrow-clause-ok c = rw c.in-Escrow.is c.escrow.ensures.ok

pub returns-in-Escrow-clause-refused : goal.returns-in-Escrow-clause-refused
returns-in-Escrow-clause-refused c = rw c.in-Escrow.is c.escrow.ensures.refused

pub returns-in-Transfer-clause-ok : goal.returns-in-Transfer-clause-ok
returns-in-Transfer-clause-ok c = rw c.in-Transfer.is c.transfer.ensures.ok

pub returns-in-Transfer-clause-refused : goal.returns-in-Transfer-clause-refused
returns-in-Transfer-clause-refused c = rw c.in-Transfer.is c.transfer.ensures.refused
