use Rattle.vote_log.proofs.Counted.{stands_more}
use Rattle.vote_log.proofs.tally.tally_of.Goals as goal

pub loop-place-preserved : goal.loop-place-preserved
loop-place-preserved c =
    stands_more c.args.recs.now c.args.deal.now c.loop-place.place c.loop-place.tally c.tally_after-tally.result c.index-recs-place.result c.loop-place-test.true c.index-recs-place.is c.tally_after-tally.ensures.ranged c.loop-place.invariant c.tally_after-tally.ensures.value
