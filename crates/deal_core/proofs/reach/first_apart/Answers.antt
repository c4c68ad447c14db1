use Rattle.std.proofs.Common.{below_more, length, arith}
use Rattle.deal_core.proofs.Walks.{joined_connected}
use Rattle.deal_core.proofs.reach.first_apart.Goals as goal

pub loop-party-preserved : goal.loop-party-preserved
loop-party-preserved c = below_more _ _ c.loop-party.invariant ((c.marks-reached.ensures c.loop-party.party).0 c.if-not-reached-party.false, (c.marks-reaching.ensures c.loop-party.party).0 c.if-not-reaching-party.false)

pub returns-clause-none : goal.returns-clause-none
returns-clause-none c = joined_connected c.args.steps.now (length c.args.parties.now) (λ party h. c.loop-party.invariant party (omega (arith, h, c.loop-party-test.false)))
