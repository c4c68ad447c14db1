use Rattle.std.proofs.Common.{ap, sym, ◌∙◌, refl, arith, ◌<◌, length}
use Rattle.std.specs.Option.{is_some}
use Rattle.std.proofs.lemmas.List.{get_or_default}
use Rattle.keeper_core.proofs.Numbered.{slot_there, table_there, after_write}
use Rattle.keeper_core.proofs.cells.Cells.set.Goals as goal

pub index_mut-table-requires : goal.index_mut-table-requires
index_mut-table-requires c = omega (arith, c.self.inside.tables.ok.0, table_there c.self.inside.tables.items c.self.inside.tables.items c.args.self.now c.args.tab c.from.result c.args.key.now c.self.view_is refl c.from.ensures c.requires)

pub set-requires : goal.set-requires
set-requires c =
    let tables = c.self.inside.tables.items in
    let lt : c.from.result < length c.self.inside.tables.items = table_there c.self.inside.tables.items c.self.inside.tables.items c.args.self.now c.args.tab c.from.result c.args.key.now c.self.view_is refl c.from.ensures c.requires in
    let there = slot_there c.self.inside.tables.items c.self.inside.tables.items c.args.self.now c.args.tab c.from.result c.args.key.now c.self.view_is refl c.from.ensures c.index_mut-table.result.now lt (λ d. c.index_mut-table.ensures.value ∙ get_or_default c.self.inside.tables.items c.from.result c.index_mut-table.result.now d lt) in
    sym (ap is_some there) ∙ c.requires

pub returns : goal.returns
returns c =
    let lt : c.from.result < length c.self.inside.tables.items = table_there c.self.inside.tables.items c.self.inside.tables.items c.args.self.now c.args.tab c.from.result c.args.key.now c.self.view_is refl c.from.ensures c.requires in
    after_write c.self.inside.tables.items c.args.self.now c.args.tab c.from.result c.args.key.now c.index_mut-table.result.now c.self.view_is c.from.ensures lt c.index_mut-table.ensures.value c.set.new.self _ c.set.ensures
