use Rattle.std.proofs.Common.{◌<◌, length, arith}
use Rattle.keeper_core.proofs.Numbered.{after_prune}
use Rattle.keeper_core.proofs.cells.Cells.prune.Goals as goal

pub returns-then-place-len : goal.returns-then-place-len
returns-then-place-len c =
    let lt : c.from-place.result < length c.self.inside.tables.items = omega (arith, c.self.inside.tables.ok.0) in
    after_prune c.self.inside.tables.items c.args.self.now c.args.tab c.from-place.result c.args.key.now c.index_mut-table.result.now c.self.view_is c.from-place.ensures lt c.index_mut-table.ensures.value c.prune.new.self c.prune.ensures
