use Rattle.std.proofs.Common.{◌≡◌, Option, ap, sym, ◌∙◌}
use Rattle.std.specs.Option.{is_some, unwrap_or}
use Rattle.std.specs.BTreeMap.{BTreeMap}
use Rattle.std.specs.declared.string.String.{String}
use Rattle.std.specs.declared.alloc.Global.{Global}
use Rattle.std.specs.FinMap.{from_entries, empty}
use Rattle.keeper_core.specs.Tables.{Tables}
use Rattle.keeper_core.specs.Slots.{Slots, filled}
use Rattle.keeper_core.specs.MemoryStore.{Maps, StoreTold, with_map}
use Rattle.keeper_core.specs.Shelving.{shelved}
use Rattle.keeper_core.specs.contracts.mem_store.MemStore.{the_view}
use Rattle.keeper_core.proofs.Shelves.{maps_after_set, maps_unset, map_found, name_found}
use Rattle.keeper_core.proofs.mem_store.MemStore.replace.Goals as goal
use Rattle.keeper_core.proofs.mem_store.MemStore.replace.Goals.{in-Some, in-None}

with_maps : StoreTold → Maps → StoreTold
with_maps store maps = record { maps = maps; calls = store.calls; returned = store.returned }

pub returns-clause-maps : goal.returns-clause-maps
unfolding with_maps
returns-clause-maps c =
    let seen : from_entries (shelved c.self.inside.maps.entries) ≡ c.args.self.now.maps = ap (λ (s : StoreTold). s.maps) c.self.view_is in
    elim c.match-get_mut.branch [
      | in-Some w ↦
          let some = ap is_some (sym w.in-Some.ensures.value) in
          let lender = c.get_mut.follows.lender w.replace.new.dest in
          let put = maps_after_set c.args.name.now c.self.inside.maps (c.get_mut.follows.lender w.replace.new.dest) c.args.self.now.maps w.replace.new.dest seen some ((c.get_mut.follows.holds w.replace.new.dest).3 some) in
          ap the_view w.self-inside-is ∙ ap (λ (s : StoreTold). with_maps s (from_entries (shelved (c.get_mut.follows.lender w.replace.new.dest).entries))) c.self.view_is
          ∙ ap (with_maps c.args.self.now) (put ∙ ap (λ (s : Slots). with_map c.args.self.now.maps c.args.name.now (filled s)) w.replace.ensures.after)
      | in-None w ↦
          let unset = maps_unset c.args.name.now c.self.inside.maps.entries c.args.self.now.maps (filled c.args.cells) seen (sym w.in-None.ensures.value) in
          ap the_view w.self-inside-is ∙ ap (λ (m : BTreeMap (String Global) Slots). with_maps (the_view c.self.inside) (from_entries (shelved m.entries))) c.get_mut.follows.holds-at-none
          ∙ c.self.view_is ∙ ap (with_maps c.args.self.now) unset
    ]

pub returns-clause-given : goal.returns-clause-given
returns-clause-given c = λ has.
    let seen : from_entries (shelved c.self.inside.maps.entries) ≡ c.args.self.now.maps = ap (λ (s : StoreTold). s.maps) c.self.view_is in
    elim c.match-get_mut.branch [
      | in-Some w ↦
          let found = map_found c.args.name.now c.self.inside.maps.entries c.args.self.now.maps _ seen w.in-Some.ensures.value in
          ap filled (w.result-is ∙ w.replace.ensures.value) ∙ sym (ap (λ (o : Option Tables). unwrap_or o empty) found)
      | in-None w ↦ let h = sym (ap is_some (sym w.in-None.ensures.value)) ∙ name_found c.args.name.now c.self.inside.maps.entries c.args.self.now.maps seen ∙ has in absurd cc
    ]
