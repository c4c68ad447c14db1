use Rattle.std.proofs.Common.{◌≡◌, take}
use Rattle.std.specs.List.{filter_map}
use Rattle.house_tables.specs.Rows.{hold_read}
use Rattle.house_tables.proofs.rows.hold_rows.Given as goal

abbrev pub invariant-loop-row : goal.invariant-loop-row
invariant-loop-row l = l.holds.items ≡ filter_map hold_read (take l.row-index l.rows)
