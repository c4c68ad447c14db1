use Rattle.std.proofs.Common.{◌++◌, [], ◌∙◌}
use Rattle.ledger_rows.specs.ActChanges.{transfer_changes}
use Rattle.ledger_acts.proofs.Batching.{three_put}
use Rattle.ledger_acts.proofs.moving.put_transfer.Goals as goal

pub returns : goal.returns
returns c =
    three_put _ _ _ _ _ _ _ c.in_ok-put_moves.ensures c.in_ok-put_hold.ensures c.in_ok-put_hold-2.ensures
    ∙ (λ i. c.args.batch.now ++ transfer_changes c.args.deal.now c.args.from.now c.args.to.now c.args.asset.now (c.moves.ensures i) (c.hold_of-sender.ensures i) (c.hold_of-receiver.ensures i) [])
