use Rattle.std.proofs.Common.{◌++◌, [], ◌∙◌}
use Rattle.ledger_rows.specs.ActChanges.{escrow_changes}
use Rattle.ledger_acts.proofs.Batching.{two_put}
use Rattle.ledger_acts.proofs.moving.put_escrow.Goals as goal

pub returns : goal.returns
returns c =
    two_put _ _ _ _ _ c.in_ok-put_free.ensures c.in_ok-put_hold.ensures
    ∙ (λ i. c.args.batch.now ++ escrow_changes c.args.deal.now c.args.party.now c.args.asset.now (c.free.ensures i) (c.hold_of-own.ensures i) [])
