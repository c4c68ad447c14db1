use Rattle.std.proofs.Common.{ap, sym, ◌∙◌, Some}
use Rattle.keeper_core.specs.Slots.{held}
use Rattle.keeper_core.proofs.Bare.{slot_found}
use Rattle.keeper_core.proofs.table.Table.get.Goals as goal

pub returns-in-Some : goal.returns-in-Some
returns-in-Some c =
    let found = slot_found c.args.key.now c.self.inside.slots.entries c.args.self.now _ c.self.view_is c.get.ensures.value in
    let there = rw (c.in_ok-val.was, c.in-Some.is) at found in
    ap Some c.as_slice.ensures.value ∙ sym (ap held there)

pub returns-in-None : goal.returns-in-None
returns-in-None c =
    let found = slot_found c.args.key.now c.self.inside.slots.entries c.args.self.now _ c.self.view_is c.get.ensures.value in
    let empty = rw (c.in_ok-val.was, c.in-None.is) at found in
    sym (ap held empty)

pub returns-in_err-val : goal.returns-in_err-val
returns-in_err-val c =
    let found = slot_found c.args.key.now c.self.inside.slots.entries c.args.self.now _ c.self.view_is c.get.ensures.value in
    let missing = rw c.in_err-val.was at found in
    rw c.from_residual.ensures (sym (ap held missing))
