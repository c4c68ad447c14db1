use Rattle.std.proofs.Common.{◌≡◌, None, arith}
use Rattle.std.specs.FinMap.{insert, from_entries}
use Rattle.std.specs.Ordering.{nat_cmp}
use Rattle.std.specs.Cmp.Lexicographic.{slice_cmp}
use Rattle.keeper_core.specs.Laying.{bare}
use Rattle.keeper_core.proofs.Bare.{bare_slot, at_bytes, slots_after_set, none_missed}
use Rattle.keeper_core.proofs.table.Table.set.Goals as goal

pub returns : goal.returns
returns c =
    let key = c.args.key.now in
    let written : from_entries {R = slice_cmp nat_cmp} (bare (c.get_mut.follows.lender c.args.val).entries) ≡ insert c.args.self.now c.args.key.now (bare_slot c.args.val) =
    slots_after_set c.args.key.now c.self.inside.slots (c.get_mut.follows.lender c.args.val) c.args.self.now c.args.val c.self.view_is c.requires (λ some. (c.get_mut.follows.holds c.args.val).3 some) in
    let missed : at_bytes c.args.key.now c.self.inside.slots.entries ≡ None → ⊥ = none_missed c.args.key.now c.self.inside.slots.entries c.args.self.now c.self.view_is c.requires in
    let value = c.get_mut.ensures.value in
    grind (arith, written, missed, value)
