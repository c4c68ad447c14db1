use Rattle.ledger_acts.proofs.RegisterSteps.{registers}
use Rattle.ledger_acts.proofs.registering.register.Goals as goal

pub returns-clause-step : goal.returns-clause-step
returns-clause-step g c =
    λ opened entries stands is_house of is_acts is_number.
    let by = c.register_by_rows.ensures in (
      by.0,
      by.1,
      registers opened entries c.args.house.now c.args.text.now c.args.place.now.acts c.args.place.now.number c.args.signed.now.account c.args.signed.now.q c.args.signed.now.message.now
          is_house of is_acts is_number by.0 by.1 c.register_by_rows.result (g.K.Keeper.known c.args.keeper.now) (g.K.Keeper.known c.register_by_rows.new.keeper) by.2 stands,
    )
