use Rattle.std.proofs.Common.{◌≡◌, arith}
use Rattle.ots_core.proofs.Groups.{cleared}
use Rattle.ots_core.proofs.walks.walk_group.Goals as goal

pub returns-clause-under_way : goal.returns-clause-under_way
returns-clause-under_way c before seen few held =
    let group = c.args.group.now in
    let order = held.order in
    let whole : c.loop-j.j ≡ group.count = omega arith in
    cleared c.args.key.now.ident c.args.key.now.q c.args.ways.now.from c.args.ways.now.to before seen group.chains group.first group.count c.args.values.now c.loop-j.values
    (λ j ge lt. let w = held.waiting j ge lt in c.loop-j.invariant.walked j ge (omega arith) (omega arith))
    (λ k none. c.loop-j.invariant.others k (λ j ge lt. none j ge (omega arith))) held
