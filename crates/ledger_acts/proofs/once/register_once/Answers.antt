use Rattle.ledger_acts.proofs.RegistersOnce.{registers_once}
use Rattle.ledger_acts.proofs.once.register_once.Goals as goal

pub returns-clause-step : goal.returns-clause-step
returns-clause-step g c =
    registers_once c.args.ledger.now c.args.place.now c.args.signed.now.account c.args.signed.now.q c.args.signed.now.message.now c.args.text.now
    c.register_once_by_rows.result (g.K.Keeper.known c.args.keeper.now) (g.K.Keeper.known c.register_once_by_rows.new.keeper) c.register_once_by_rows.ensures.rows
