use Rattle.ledger_rows.proofs.TransfersStand as transfers
use Rattle.ledger_rows.proofs.laws.transfer_stands.Goals as goal

pub returns : goal.returns
returns c = transfers.transfer_stands
