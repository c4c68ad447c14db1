use Rattle.clear_core.proofs.Transfers.{transfers_more}
use Rattle.clear_core.proofs.planning.push_transfers.Goals as goal

pub loop-place-preserved : goal.loop-place-preserved
loop-place-preserved c = transfers_more c.args.party c.args.steps.now c.loop-place.place c.index-steps-place.result c.loop-place.acts.items _ c.push_transfer.new.acts.items c.loop-place-test.true c.index-steps-place.is c.loop-place.invariant c.in_ok-push_transfer.ensures
