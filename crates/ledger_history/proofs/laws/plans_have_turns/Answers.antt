use Rattle.ledger_history.proofs.Turns.{plan_turns}
use Rattle.ledger_history.proofs.laws.plans_have_turns.Goals as goal

pub returns : goal.returns
returns c = plan_turns
