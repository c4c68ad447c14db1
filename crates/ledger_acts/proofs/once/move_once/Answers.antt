use Rattle.ledger_acts.proofs.MovesOnce.{moves_once}
use Rattle.ledger_acts.proofs.once.move_once.Goals as goal

pub returns-clause-step : goal.returns-clause-step
returns-clause-step g c =
    λ of. moves_once c.args.ledger.now c.args.place.now c.args.signed.now.account c.args.signed.now.q c.args.signed.now.message.now c.args.act.now c.args.movement.now of
    c.move_once_by_rows.result (g.K.Keeper.known c.args.keeper.now) (g.K.Keeper.known c.move_once_by_rows.new.keeper) c.move_once_by_rows.ensures.rows
