use Rattle.plain_script.proofs.ScriptSpelling.{is_read}
use Rattle.plain_script.proofs.laws.only.Goals as goal

pub returns : goal.returns
returns c = is_read
