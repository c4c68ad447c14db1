use Rattle.std.proofs.Common.{ap, sym, ◌∙◌}
use Rattle.keeper_core.specs.Slots.{held}
use Rattle.keeper_core.proofs.Numbered.{slot_there, slot_past}
use Rattle.keeper_core.proofs.Filled.{get_filled}
use Rattle.keeper_core.proofs.cells.Cells.get.Goals as goal

pub returns-in-Some : goal.returns-in-Some
returns-in-Some c =
    let found = c.in-Some.ensures.lookup.3 in
    let there = slot_there c.self.inside.tables.items c.deref.result.now c.args.self.now c.args.tab c.from.result c.args.key.now c.self.view_is c.deref.ensures.value c.from.ensures c.in-Some.table.now found.0 found.1 in
    c.get-in-Some.ensures ∙ sym (get_filled c.args.self.now (c.args.tab, c.args.key.now) ∙ ap held there)

pub returns-in-None : goal.returns-in-None
returns-in-None c =
    let past = slot_past c.self.inside.tables.items c.deref.result.now c.args.self.now c.args.tab c.from.result c.args.key.now c.self.view_is c.deref.ensures.value c.from.ensures c.in-None.ensures.lookup.3 in
    sym (get_filled c.args.self.now (c.args.tab, c.args.key.now) ∙ ap held past)
