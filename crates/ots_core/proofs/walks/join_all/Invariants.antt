use Rattle.std.proofs.Common.{ℕ, List, ◌<◌, ◌+◌, ◌*◌, slice_index}
use Rattle.ots_core.specs.Walks.{IsUnderWay}
use Rattle.ots_core.proofs.walks.join_all.Given as goal

abbrev pub invariant-loop-i : goal.invariant-loop-i
invariant-loop-i l = record {
  room : l.group.count < 8;
  chains : (j : ℕ) → j < 8 → slice_index l.group.chains j < 67;
  under_way : (before : List (List ℕ)) → IsUnderWay l.key.ident l.key.q l.ways.from l.ways.to before (67 * l.steps) l.fn.group.chains l.fn.group.first l.fn.group.count l.fn.values
      → IsUnderWay l.key.ident l.key.q l.ways.from l.ways.to before (67 * l.steps + l.i) l.group.chains l.group.first l.group.count l.values;
}
