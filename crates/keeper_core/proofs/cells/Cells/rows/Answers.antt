use Rattle.std.proofs.Common.{◌∙◌}
use Rattle.std.proofs.lemmas.Result.{IfOk-weaker}
use Rattle.keeper_core.proofs.Listed.{rows_there, no_rows_past}
use Rattle.keeper_core.proofs.cells.Cells.rows.Goals as goal

pub returns-in-Some : goal.returns-in-Some
returns-in-Some c =
    let found = c.in-Some.ensures.lookup.3 in
    let listed = rows_there c.self.inside.tables.items c.deref.result.now c.args.self.now c.args.tab c.from.result c.self.view_is c.deref.ensures.value c.from.ensures c.in-Some.table.now found.0 found.1 in
    IfOk-weaker c.rows.result _ _ (λ rows is. is ∙ listed) c.rows.ensures

pub returns-in-None : goal.returns-in-None
returns-in-None c =
    c.new.ensures.items ∙ no_rows_past c.self.inside.tables.items c.deref.result.now c.args.self.now c.args.tab c.from.result c.self.view_is c.deref.ensures.value c.from.ensures c.in-None.ensures.lookup.3
