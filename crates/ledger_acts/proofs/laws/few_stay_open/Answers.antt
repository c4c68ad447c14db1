use Rattle.ledger_acts.proofs.FewOpen.{few_open}
use Rattle.ledger_acts.proofs.laws.few_stay_open.Goals as goal

pub returns : goal.returns
returns c = few_open
