use Rattle.std.proofs.Common.{◌≡◌, take, map}
use Rattle.house_tables.specs.Printing.{free_line}
use Rattle.house_tables.proofs.printing.free_lines.Given as goal

abbrev pub invariant-loop-row : goal.invariant-loop-row
invariant-loop-row l = l.lines.items ≡ map (free_line l.directory) (take l.row-index l.rows)
