use Rattle.std.proofs.Common.{arith}
use Rattle.deal_core.proofs.Sums.{matrix_le}
use Rattle.deal_core.proofs.deal.matrix.Goals as goal

pub sum_between-requires : goal.sum_between-requires
sum_between-requires c =
    rw c.steps.ensures.value
    (omega (arith, matrix_le c.args.deal.now.steps c.args.from c.args.to c.args.ledger.now c.args.asset.now, c.steps.ensures.kept.kept.totals c.args.ledger.now c.args.asset.now))
