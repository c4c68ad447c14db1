use Rattle.std.proofs.Common.{◌≡◌, ◌++◌, List, map, drop}
use Rattle.keeper_core.specs.declared.row.Row as keeper
use Rattle.keeper_sql.specs.CellRows.{scan_row}
use Rattle.keeper_sql.proofs.reads.listed_rows.Given as goal

abbrev pub invariant-loop-row : goal.invariant-loop-row
invariant-loop-row l = (all : List keeper.Row) → l.rows ≡ map scan_row all → l.listed.items ++ drop l.row-index all ≡ all
