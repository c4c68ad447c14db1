use Rattle.plain_script.proofs.PlainWords.{line_found}
use Rattle.plain_script.proofs.laws.spelled_of_statement.Goals as goal

pub returns : goal.returns
returns c = line_found
