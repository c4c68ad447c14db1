use Rattle.ledger_history.proofs.Fronts.{front_is}
use Rattle.ledger_history.proofs.laws.fronts_are_histories.Goals as goal

pub returns : goal.returns
returns c = front_is
