use Rattle.std.proofs.Common.{◌*◌, arith}
use Rattle.ots_core.proofs.walks.walk.Goals as goal

pub loop-steps-preserved : goal.loop-steps-preserved
loop-steps-preserved c = record {
  room = c.join_all.ensures.room;
  chains = c.join_all.ensures.chains;
  under_way = c.join_all.ensures.under_way c.args.start.now c.loop-steps.invariant.under_way;
}

pub returns-then-group : goal.returns-then-group
returns-then-group c i lt =
    let all = c.walk_group.ensures.under_way c.args.start.now (67 * c.loop-steps.steps) (omega arith) c.loop-steps.invariant.under_way in
    let few = c.requires.ways.few i lt in
    let none = c.walk_group.ensures.none in
    all.walked i lt (omega arith) (λ j ge lt. absurd (omega arith))

pub returns-else-group : goal.returns-else-group
returns-else-group c i lt =
    let few = c.requires.ways.few i lt in
    c.loop-steps.invariant.under_way.walked i lt (omega arith) (λ j ge lt. absurd (omega arith))
