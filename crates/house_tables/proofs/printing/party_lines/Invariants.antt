use Rattle.std.proofs.Common.{◌≡◌, take}
use Rattle.std.specs.List.{filter_map}
use Rattle.house_tables.specs.Printing.{party_line_in}
use Rattle.house_tables.proofs.printing.party_lines.Given as goal

abbrev pub invariant-loop-row : goal.invariant-loop-row
invariant-loop-row l = l.lines.items ≡ filter_map (party_line_in l.directory l.deal) (take l.row-index l.holds)
