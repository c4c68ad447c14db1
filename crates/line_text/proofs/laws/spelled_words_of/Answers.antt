use Rattle.line_text.proofs.Joining.{words_of-some, words_of-lack, spelled-words_of}
use Rattle.line_text.proofs.laws.spelled_words_of.Goals as goal

pub returns : goal.returns
returns c = record { some = words_of-some; words = words_of-lack; spelled = spelled-words_of }
