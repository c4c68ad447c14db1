use Rattle.line_text.proofs.Decimals.{number_of-decimal}
use Rattle.line_text.proofs.laws.number_of_decimal.Goals as goal

pub returns : goal.returns
returns c = number_of-decimal
