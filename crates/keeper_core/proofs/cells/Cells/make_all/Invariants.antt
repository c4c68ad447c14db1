use Rattle.std.proofs.Common.{◌≡◌}
use Rattle.keeper_core.specs.Batches.{after_batch}
use Rattle.keeper_core.specs.Slots.{filled}
use Rattle.keeper_core.specs.Rooms.{HaveRoom}
use Rattle.keeper_core.proofs.cells.Cells.make_all.Given as goal

abbrev pub invariant-loop-change : goal.invariant-loop-change
invariant-loop-change l = record {
  made : filled l.self ≡ after_batch l.yielded (filled l.initial.self);
  room : HaveRoom l.self l.fn.changes.items;
}
