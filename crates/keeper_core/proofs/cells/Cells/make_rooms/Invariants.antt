use Rattle.std.proofs.Common.{◌≡◌, take}
use Rattle.keeper_core.specs.Slots.{filled}
use Rattle.keeper_core.specs.Rooms.{HaveRoom}
use Rattle.keeper_core.proofs.cells.Cells.make_rooms.Given as goal

abbrev pub invariant-loop-change : goal.invariant-loop-change
invariant-loop-change l = record {
  room : HaveRoom l.self (take l.change-index l.changes);
  same : filled l.self ≡ filled l.initial.self;
}
