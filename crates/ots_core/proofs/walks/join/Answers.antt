use Rattle.std.proofs.Common.{◌+◌, ◌*◌, arith}
use Rattle.ots_core.proofs.Groups.{joined}
use Rattle.ots_core.proofs.walks.join.Goals as goal

pub returns-then-group-eq8-clause-under_way : goal.returns-then-group-eq8-clause-under_way
returns-then-group-eq8-clause-under_way c before held =
    let group = c.args.group.now in
    c.walk_group.ensures.under_way before (67 * c.args.steps + (c.args.i + 1)) (omega arith)
    (joined c.args.key.now.ident c.args.key.now.q c.args.ways.now.from c.args.ways.now.to before c.args.steps c.args.i group.chains group.first group.count c.args.values.now c.requires.chain c.requires.room (omega arith) c.requires.way held)

pub returns-else-group-eq8-clause-under_way : goal.returns-else-group-eq8-clause-under_way
returns-else-group-eq8-clause-under_way c before held =
    let group = c.args.group.now in
    joined c.args.key.now.ident c.args.key.now.q c.args.ways.now.from c.args.ways.now.to before c.args.steps c.args.i group.chains group.first group.count c.args.values.now c.requires.chain c.requires.room (omega arith) c.requires.way held
