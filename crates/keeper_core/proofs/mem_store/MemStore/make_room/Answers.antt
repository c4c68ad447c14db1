use Rattle.std.proofs.Common.{◌≡◌, List, ℕ, ap, sym, ◌∙◌, false, true, arith}
use Rattle.std.specs.FinMap.{contains_key, insert, from_entries}
use Rattle.std.specs.String.{string_bytes}
use Rattle.keeper_core.specs.Slots.{filled}
use Rattle.keeper_core.specs.MemoryStore.{Maps, StoreTold, with_room_for}
use Rattle.keeper_core.specs.Shelving.{shelved}
use Rattle.keeper_core.proofs.Filled.{filled_empty}
use Rattle.keeper_core.proofs.Shelves.{name_found, maps_room_made, maps_room_there, maps_after_write}
use Rattle.keeper_core.proofs.mem_store.MemStore.make_room.Goals as goal

with_maps : StoreTold → Maps → StoreTold
with_maps store maps = record { maps = maps; calls = store.calls; returned = store.returned }

pub returns-in_ok-insert-clause-ok : goal.returns-in_ok-insert-clause-ok
unfolding with_maps
returns-in_ok-insert-clause-ok c =
    let seen : from_entries (shelved c.self.inside.maps.entries) ≡ c.args.self.now.maps = ap (λ (s : StoreTold). s.maps) c.self.view_is in
    let none : contains_key c.args.self.now.maps c.args.name.now ≡ false = sym (name_found c.args.name.now c.self.inside.maps.entries c.args.self.now.maps seen) ∙ sym c.contains_key.ensures ∙ c.if-not-contains_key.true in
    let written = maps_after_write (string_bytes c.in_ok-name.name) c.self.inside.maps c.insert.new.self c.new.result c.in_ok-insert.ensures.updates in
    let made : from_entries (shelved c.insert.new.self.entries) ≡ with_room_for c.args.self.now.maps c.args.name.now =
    maps_room_made c.args.self.now.maps _ c.args.name.now none (written ∙ ap (λ (m : Maps). insert m (string_bytes c.in_ok-name.name) (filled c.new.result)) seen
    ∙ ap (λ (n : List ℕ). insert c.args.self.now.maps n (filled c.new.result)) c.in_ok-name.ensures.ok
    ∙ ap (insert c.args.self.now.maps c.args.name.now) (ap filled c.new.ensures ∙ filled_empty)) in
    let whole = ap (λ (s : StoreTold). with_maps s (from_entries (shelved c.insert.new.self.entries))) c.self.view_is ∙ ap (with_maps c.args.self.now) made in
    grind (arith, whole)

pub returns-else-not-contains_key-clause-ok : goal.returns-else-not-contains_key-clause-ok
unfolding with_maps
returns-else-not-contains_key-clause-ok c =
    let seen : from_entries (shelved c.self.inside.maps.entries) ≡ c.args.self.now.maps = ap (λ (s : StoreTold). s.maps) c.self.view_is in
    let has : contains_key c.args.self.now.maps c.args.name.now ≡ true = sym (name_found c.args.name.now c.self.inside.maps.entries c.args.self.now.maps seen) ∙ sym c.contains_key.ensures ∙ c.if-not-contains_key.false in
    ap (with_maps c.args.self.now) (maps_room_there c.args.self.now.maps c.args.name.now has)
