use Rattle.std.proofs.Common.{arith}
use Rattle.deal_core.proofs.Walks.{marks_more, marks_fewer, marks_all}
use Rattle.deal_core.proofs.reach.marks.Goals as goal

pub loop-party-smaller : goal.loop-party-smaller
loop-party-smaller c = marks_fewer c.loop-party.marks c.in-Some.party (omega (arith, c.in-Some.ensures.some.5, c.loop-party.invariant.long)) c.in-Some.ensures.some.3

pub loop-party-preserved : goal.loop-party-preserved
loop-party-preserved c = marks_more c.args.way c.args.steps.now c.loop-party.marks c.in-Some.party c.loop-party.invariant c.in-Some.ensures.some

pub returns : goal.returns
returns c = marks_all c.args.way c.args.steps.now c.loop-party.marks c.loop-party.invariant c.in_default.ensures.none
