use Rattle.std.proofs.Common.{ap, sym, ◌∙◌}
use Rattle.std.specs.Option.{is_some}
use Rattle.keeper_core.proofs.Numbered.{slot_there, slot_past}
use Rattle.keeper_core.proofs.cells.Cells.has_slot.Goals as goal

pub returns-in-Some : goal.returns-in-Some
returns-in-Some c =
    let found = c.in-Some.ensures.lookup.3 in
    let there = slot_there c.self.inside.tables.items c.deref.result.now c.args.self.now c.args.tab c.from.result c.args.key.now c.self.view_is c.deref.ensures.value c.from.ensures c.in-Some.table.now found.0 found.1 in
    c.has_slot.ensures ∙ sym (ap is_some there)

pub returns-in-None : goal.returns-in-None
returns-in-None c =
    let past = slot_past c.self.inside.tables.items c.deref.result.now c.args.self.now c.args.tab c.from.result c.args.key.now c.self.view_is c.deref.ensures.value c.from.ensures c.in-None.ensures.lookup.3 in
    sym (ap is_some past)
