use Rattle.ledger_history.proofs.Fronts.{grows}
use Rattle.ledger_history.proofs.laws.histories_grow.Goals as goal

pub returns : goal.returns
returns c = grows
