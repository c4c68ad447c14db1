use Rattle.ledger_rows.proofs.EscrowsStand as escrows
use Rattle.ledger_rows.proofs.laws.escrow_stands.Goals as goal

pub returns : goal.returns
returns c = escrows.escrow_stands
