use Rattle.cert_core.proofs.SetTexts.{set-read}
use Rattle.cert_core.proofs.laws.sets_read.Goals as goal

pub returns : goal.returns
returns c = set-read
