use Rattle.line_text.proofs.Plain.{lacks-spelled_words}
use Rattle.line_text.proofs.laws.plain_lines.Goals as goal

pub returns : goal.returns
returns c = lacks-spelled_words
