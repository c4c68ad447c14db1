use Rattle.plain_script.proofs.PlainWords.{line_only}
use Rattle.plain_script.proofs.laws.statement_of_spelled.Goals as goal

pub returns : goal.returns
returns c = line_only
