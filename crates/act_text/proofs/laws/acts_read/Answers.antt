use Rattle.act_text.proofs.ActTexts.{act-read}
use Rattle.act_text.proofs.laws.acts_read.Goals as goal

pub returns : goal.returns
returns c = act-read
