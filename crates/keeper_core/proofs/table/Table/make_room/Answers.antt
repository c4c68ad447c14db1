use Rattle.std.proofs.Common.{◌≡◌, ap, sym, ◌∙◌, false, None, List, ℕ, arith}
use Rattle.std.specs.FinMap.{contains_key, insert, from_entries}
use Rattle.std.specs.Ordering.{nat_cmp}
use Rattle.std.specs.Cmp.Lexicographic.{slice_cmp}
use Rattle.keeper_core.specs.Slots.{TableSlots, with_room}
use Rattle.keeper_core.specs.Laying.{bare}
use Rattle.keeper_core.proofs.Bare.{has_found, room_made, room_there, slots_after_write}
use Rattle.keeper_core.proofs.table.Table.make_room.Goals as goal

pub returns-in_ok-insert-clause-ok : goal.returns-in_ok-insert-clause-ok
returns-in_ok-insert-clause-ok c =
    let none : contains_key c.args.self.now c.args.key.now ≡ false = sym (has_found c.args.key.now c.self.inside.slots.entries c.args.self.now c.self.view_is) ∙ sym c.contains_key.ensures ∙ c.if-not-contains_key.true in
    let written = slots_after_write c.in_ok-key.key.items c.self.inside.slots c.insert.new.self None c.in_ok-insert.ensures.updates in
    let key : c.in_ok-key.key.items ≡ c.args.key.now = c.in_ok-key.ensures.items_if_clones_equal (λ x y e. e) in
    let made : from_entries {R = slice_cmp nat_cmp} (bare c.insert.new.self.entries) ≡ with_room c.args.self.now c.args.key.now =
    room_made c.args.self.now _ c.args.key.now none (written ∙ ap (λ (s : TableSlots). insert s c.in_ok-key.key.items None) c.self.view_is ∙ ap (λ (k : List ℕ). insert c.args.self.now k None) key) in
    grind (arith, made)

pub returns-else-not-contains_key-clause-ok : goal.returns-else-not-contains_key-clause-ok
returns-else-not-contains_key-clause-ok c =
    room_there c.args.self.now c.args.key.now (sym (has_found c.args.key.now c.self.inside.slots.entries c.args.self.now c.self.view_is) ∙ sym c.contains_key.ensures ∙ c.if-not-contains_key.false)
