use Rattle.std.proofs.Common.{◌≡◌, map}
use Rattle.std.specs.Map.Iter.{deref_pair}
use Rattle.keeper_core.specs.Slots.{rows_in}
use Rattle.keeper_core.specs.Laying.{bare}
use Rattle.keeper_core.proofs.table.Table.rows.Given as goal

abbrev pub invariant-loop-key : goal.invariant-loop-key
invariant-loop-key l = l.rows.items ≡ rows_in (bare (map deref_pair l.yielded))
