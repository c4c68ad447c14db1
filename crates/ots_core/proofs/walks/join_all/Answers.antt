use Rattle.std.proofs.Common.{◌≡◌, ℕ, ◌+◌, ◌*◌, subst, arith}
use Rattle.ots_core.specs.Walks.{IsUnderWay}
use Rattle.ots_core.proofs.Groups.{passed}
use Rattle.ots_core.proofs.walks.join_all.Goals as goal
use Rattle.ots_core.proofs.walks.join_all.Goals.{then-ways-i, else-ways-i}

pub loop-i-preserved : goal.loop-i-preserved
loop-i-preserved c = elim c.if-ways-i.branch [
  | then-ways-i w ↦ rw (w.group-is, w.values-is) (record {
    room = w.join.ensures.room;
    chains = w.join.ensures.chains;
    under_way = λ before held. w.join.ensures.under_way before (c.loop-i.invariant.under_way before held);
  })
  | else-ways-i w ↦ rw (w.group-is, w.values-is) (record {
    room = c.loop-i.invariant.room;
    chains = c.loop-i.invariant.chains;
    under_way = λ before held.
        passed c.args.key.now.ident c.args.key.now.q c.args.ways.now.from c.args.ways.now.to before c.args.steps c.loop-i.i c.loop-i.group.chains c.loop-i.group.first c.loop-i.group.count c.loop-i.values
        (omega arith) (c.requires.ways.forward c.loop-i.i (omega arith)) w.if-ways-i.false (c.loop-i.invariant.under_way before held);
  })
]

pub returns-clause-under_way : goal.returns-clause-under_way
returns-clause-under_way c before held =
    let all : 67 * c.args.steps + c.loop-i.i ≡ 67 * (c.args.steps + 1) = omega arith in
    subst (λ (n : ℕ). IsUnderWay c.args.key.now.ident c.args.key.now.q c.args.ways.now.from c.args.ways.now.to before n c.loop-i.group.chains c.loop-i.group.first c.loop-i.group.count c.loop-i.values) all
    (c.loop-i.invariant.under_way before held)
