use Rattle.plain_script.proofs.ScriptSpelling.{was_read}
use Rattle.plain_script.proofs.laws.found.Goals as goal

pub returns : goal.returns
returns c = was_read
