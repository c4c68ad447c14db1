use Rattle.std.proofs.Common.{ℕ, ◌<◌, ◌*◌, slice_index}
use Rattle.ots_core.specs.Walks.{IsUnderWay}
use Rattle.ots_core.proofs.walks.walk.Given as goal

abbrev pub invariant-loop-steps : goal.invariant-loop-steps
invariant-loop-steps l = record {
  room : l.group.count < 8;
  chains : (j : ℕ) → j < 8 → slice_index l.group.chains j < 67;
  under_way : IsUnderWay l.key.ident l.key.q l.ways.from l.ways.to l.start (67 * l.steps) l.group.chains l.group.first l.group.count l.values;
}
