use Rattle.deal_log.proofs.Taking.{one_reading}
use Rattle.deal_log.proofs.laws.one_posting.Goals as goal

pub returns : goal.returns
returns c = one_reading
