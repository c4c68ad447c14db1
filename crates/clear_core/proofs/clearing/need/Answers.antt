use Rattle.std.proofs.Common.{arith}
use Rattle.clear_core.proofs.Least.{need_funds, need_is_least, need_le, outgoing_le, incoming_le}
use Rattle.clear_core.proofs.clearing.need.Goals as goal

pub greatest_excess-requires-clause-went : goal.greatest_excess-requires-clause-went
greatest_excess-requires-clause-went c =
    rw c.steps.ensures.value
    (omega (arith, outgoing_le c.args.deal.now.steps c.args.party c.args.ledger.now c.args.asset.now, c.steps.ensures.kept.kept.totals c.args.ledger.now c.args.asset.now))

pub greatest_excess-requires-clause-came : goal.greatest_excess-requires-clause-came
greatest_excess-requires-clause-came c =
    rw c.steps.ensures.value
    (omega (arith, incoming_le c.args.deal.now.steps c.args.party c.args.ledger.now c.args.asset.now, c.steps.ensures.kept.kept.totals c.args.ledger.now c.args.asset.now))

pub returns-clause-funds : goal.returns-clause-funds
returns-clause-funds c =
    rw (c.greatest_excess.ensures, c.steps.ensures.value) (need_funds c.args.deal.now.steps c.args.party c.args.ledger.now c.args.asset.now)

pub returns-clause-least : goal.returns-clause-least
returns-clause-least c =
    rw (c.greatest_excess.ensures, c.steps.ensures.value) (need_is_least c.args.deal.now.steps c.args.party c.args.ledger.now c.args.asset.now)

pub returns-clause-small : goal.returns-clause-small
returns-clause-small c =
    rw (c.greatest_excess.ensures, c.steps.ensures.value)
    (omega (arith, need_le c.args.deal.now.steps c.args.party c.args.ledger.now c.args.asset.now, outgoing_le c.args.deal.now.steps c.args.party c.args.ledger.now c.args.asset.now, c.steps.ensures.kept.kept.totals c.args.ledger.now c.args.asset.now))
