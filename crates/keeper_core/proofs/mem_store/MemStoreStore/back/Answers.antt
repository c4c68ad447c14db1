use Rattle.std.proofs.Common.{Some, ap, ◌∙◌}
use Rattle.keeper_core.specs.Slots.{filled}
use Rattle.keeper_core.specs.MemoryStore.{Maps, StoreTold, map_in, with_map}
use Rattle.keeper_core.proofs.Naming.{map_in-here, map_in-elsewhere, rooms_with_map}
use Rattle.keeper_core.proofs.mem_store.MemStoreStore.back.Goals as goal

pub returns-clause-maps : goal.returns-clause-maps
returns-clause-maps c =
    ap (λ (s : StoreTold). s.maps) c.replace.ensures.maps
    ∙ ap (λ (s : StoreTold). with_map s.maps c.args.name.now (filled c.into_cells.result)) c.self.view_is
    ∙ ap (with_map c.args.self.now.maps c.args.name.now) c.into_cells.ensures

pub returns-clause-own : goal.returns-clause-own
returns-clause-own c = λ room. ap Some (ap (λ (m : Maps). map_in m c.args.name.now) (returns-clause-maps c) ∙ map_in-here c.args.self.now.maps c.args.name.now c.args.keep.tables room)

pub returns-clause-rooms : goal.returns-clause-rooms
returns-clause-rooms c = λ other room. rw (returns-clause-maps c) (rooms_with_map c.args.self.now.maps c.args.name.now c.args.keep.tables other room)

pub returns-clause-others : goal.returns-clause-others
returns-clause-others c = λ other ne. ap Some (ap (λ (m : Maps). map_in m other) (returns-clause-maps c) ∙ map_in-elsewhere c.args.self.now.maps c.args.name.now c.args.keep.tables other ne)
