use Rattle.std.proofs.Common.{◌≡◌, take}
use Rattle.std.specs.List.{filter_map}
use Rattle.house_tables.specs.Rows.{free_read}
use Rattle.house_tables.proofs.rows.free_rows.Given as goal

abbrev pub invariant-loop-row : goal.invariant-loop-row
invariant-loop-row l = l.free.items ≡ filter_map free_read (take l.row-index l.rows)
