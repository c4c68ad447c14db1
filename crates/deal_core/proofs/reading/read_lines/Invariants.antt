use Rattle.std.proofs.Common.{◌≡◌, length}
use Rattle.deal_core.specs.Drafts.{reading_behind, reading_of}
use Rattle.deal_core.proofs.reading.read_lines.Given as goal

abbrev pub invariant-loop-line : goal.invariant-loop-line
invariant-loop-line l = reading_of l.text ≡ reading_behind l.draft l.lines

abbrev pub decreases-loop-line : goal.decreases-loop-line
decreases-loop-line l = length l.lines
