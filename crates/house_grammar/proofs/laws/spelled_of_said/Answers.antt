use Rattle.house_grammar.proofs.LineReading.{line_found}
use Rattle.house_grammar.proofs.laws.spelled_of_said.Goals as goal

pub returns : goal.returns
returns c = line_found
