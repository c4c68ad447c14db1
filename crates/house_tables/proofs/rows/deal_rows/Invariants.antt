use Rattle.std.proofs.Common.{◌≡◌, take}
use Rattle.std.specs.List.{filter_map}
use Rattle.house_tables.specs.Rows.{deal_read}
use Rattle.house_tables.proofs.rows.deal_rows.Given as goal

abbrev pub invariant-loop-row : goal.invariant-loop-row
invariant-loop-row l = l.deals.items ≡ filter_map deal_read (take l.row-index l.rows)
