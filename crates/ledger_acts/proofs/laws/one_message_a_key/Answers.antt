use Rattle.ledger_acts.proofs.OneMessage.{one_message}
use Rattle.ledger_acts.proofs.laws.one_message_a_key.Goals as goal

pub returns : goal.returns
returns c = one_message
