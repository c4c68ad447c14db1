use Rattle.line_text.proofs.Decimals.{decimal-number_of}
use Rattle.line_text.proofs.laws.decimal_of_number.Goals as goal

pub returns : goal.returns
returns c = decimal-number_of
