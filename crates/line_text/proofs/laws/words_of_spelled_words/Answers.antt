use Rattle.line_text.proofs.Joining.{words_of-spelled}
use Rattle.line_text.proofs.laws.words_of_spelled_words.Goals as goal

pub returns : goal.returns
returns c = words_of-spelled
