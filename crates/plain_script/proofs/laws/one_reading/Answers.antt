use Rattle.plain_script.proofs.ScriptSpelling.{one_spelling}
use Rattle.plain_script.proofs.laws.one_reading.Goals as goal

pub returns : goal.returns
returns c = one_spelling
