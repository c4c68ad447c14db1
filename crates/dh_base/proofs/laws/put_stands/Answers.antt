use Rattle.dh_base.proofs.Fields.{StandsAt-within}
use Rattle.dh_base.proofs.laws.put_stands.Goals as goal

pub returns : goal.returns
returns c = StandsAt-within
