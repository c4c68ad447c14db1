use Rattle.plain_core.proofs.Told.{one_log}
use Rattle.plain_core.proofs.laws.one_log.Goals as goal

pub returns : goal.returns
returns c = one_log
