use Rattle.std.proofs.Common.{◌≡◌, Some, ap, ◌∙◌}
use Rattle.std.specs.FinMap.{empty}
use Rattle.keeper_core.specs.Slots.{filled}
use Rattle.keeper_core.specs.Memory.{KeeperTold}
use Rattle.keeper_core.specs.MemoryStore.{Maps, StoreTold, with_map, with_room_for}
use Rattle.keeper_core.proofs.Filled.{filled_empty}
use Rattle.keeper_core.proofs.Naming.{room_after, rooms_after, others_after, taken_after, handed}
use Rattle.keeper_core.proofs.mem_store.MemStoreStore.keep.Goals as goal

-- the maps with room for the name
made : (c : goal.After-over) → c.make_room.new.self.maps ≡ with_room_for c.args.self.now.maps c.args.name.now
made c = ap (λ (s : StoreTold). s.maps) c.in_ok-make_room.ensures.ok ∙ ap (λ (s : StoreTold). with_room_for s.maps c.args.name.now) c.self.view_is

-- and then with its map taken out
put : (c : goal.After-over) → c.replace-cells.new.self.maps ≡ with_map c.make_room.new.self.maps c.args.name.now empty
put c = ap (λ (s : StoreTold). s.maps) c.replace-cells.ensures.maps ∙ ap (with_map c.make_room.new.self.maps c.args.name.now) (ap filled c.new.ensures ∙ filled_empty)

pub returns-clause-maps : goal.returns-clause-maps
returns-clause-maps c = put c ∙ ap (λ (m : Maps). with_map m c.args.name.now empty) (made c)

pub returns-clause-gives : goal.returns-clause-gives
returns-clause-gives c = ap Some (ap (λ (k : KeeperTold). k.tables) c.over.ensures ∙ handed c.args.self.now.maps c.make_room.new.self.maps c.replace-cells.new.self.maps c.args.name.now empty (made c) (put c) (filled c.replace-cells.result) c.replace-cells.ensures.given)

pub returns-clause-room : goal.returns-clause-room
returns-clause-room c = room_after c.args.self.now.maps c.make_room.new.self.maps c.replace-cells.new.self.maps c.args.name.now empty (made c) (put c)

pub returns-clause-rooms : goal.returns-clause-rooms
returns-clause-rooms c = rooms_after c.args.self.now.maps c.make_room.new.self.maps c.replace-cells.new.self.maps c.args.name.now empty (made c) (put c)

pub returns-clause-others : goal.returns-clause-others
returns-clause-others c = λ other ne. ap Some (others_after c.args.self.now.maps c.make_room.new.self.maps c.replace-cells.new.self.maps c.args.name.now empty (made c) (put c) other ne)

pub returns-clause-taken : goal.returns-clause-taken
returns-clause-taken c = taken_after c.args.self.now.maps c.make_room.new.self.maps c.replace-cells.new.self.maps c.args.name.now empty (made c) (put c)
