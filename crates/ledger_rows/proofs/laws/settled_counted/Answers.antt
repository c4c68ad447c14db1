use Rattle.ledger_rows.proofs.SettledCounted as settled
use Rattle.ledger_rows.proofs.laws.settled_counted.Goals as goal

pub returns : goal.returns
returns c = settled.settled_counted
