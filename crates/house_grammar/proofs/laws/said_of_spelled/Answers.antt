use Rattle.house_grammar.proofs.LineReading.{line_only}
use Rattle.house_grammar.proofs.laws.said_of_spelled.Goals as goal

pub returns : goal.returns
returns c = line_only
