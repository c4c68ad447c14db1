use Rattle.line_text.proofs.Plain.{lacks-name, lacks-decimal}
use Rattle.line_text.proofs.laws.plain_words.Goals as goal

pub returns : goal.returns
returns c = record { name = lacks-name; decimal = lacks-decimal }
