use Rattle.std.proofs.Common.{sym, ◌∙◌, arith}
use Rattle.std.proofs.lemmas.List.{take_all}
use Rattle.cert_core.proofs.seat_text.prefix_text.Goals as goal

pub returns : goal.returns
returns c = sym (take_all 76 c.begin.new.text (omega arith)) ∙ c.begin.ensures
