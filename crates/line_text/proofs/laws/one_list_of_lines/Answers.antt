use Rattle.line_text.proofs.Joining.{AreLines-lines_of, joined-lines_of, lines_of-joined}
use Rattle.line_text.proofs.laws.one_list_of_lines.Goals as goal

pub returns : goal.returns
returns c = record { lines = AreLines-lines_of; joined = joined-lines_of; only = lines_of-joined }
