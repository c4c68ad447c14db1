use Rattle.std.proofs.Common.{sym}
use Rattle.joined_deals.specs.AgentCalls.{owed_refusal}
use Rattle.joined_deals.proofs.Looping.{refused_here, refused_on}
use Rattle.joined_deals.proofs.seeing.first_refusal.Goals as goal

pub returns-in-Some : goal.returns-in-Some
returns-in-Some c = refused_here (owed_refusal c.args.heard.now c.args.joined.now) c.args.pairs.now c.loop-pair.pair-index c.pair-item.result c.in-Some.fault c.loop-pair-test.true c.pair-item.is (sym c.in-Some.ensures) c.loop-pair.invariant

pub loop-pair-preserved : goal.loop-pair-preserved
loop-pair-preserved c = refused_on (owed_refusal c.args.heard.now c.args.joined.now) c.args.pairs.now c.loop-pair.pair-index c.pair-item.result c.loop-pair-test.true c.pair-item.is (sym c.in_default.ensures) c.loop-pair.invariant
