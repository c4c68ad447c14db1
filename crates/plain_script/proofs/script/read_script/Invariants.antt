use Rattle.std.proofs.Common.{length}
use Rattle.line_text.specs.Lines.{lines_of}
use Rattle.plain_script.proofs.Fronting.{IsRead}
use Rattle.plain_script.proofs.script.read_script.Given as goal

abbrev pub invariant-loop-line : goal.invariant-loop-line
invariant-loop-line l = IsRead (lines_of l.script) l.lines l.reader

abbrev pub decreases-loop-line : goal.decreases-loop-line
decreases-loop-line l = length l.lines
