use Rattle.line_text.proofs.Joining.{lines_of-spelled}
use Rattle.line_text.proofs.laws.lines_of_spelled_lines.Goals as goal

pub returns : goal.returns
returns c = lines_of-spelled
