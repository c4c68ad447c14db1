use Rattle.std.proofs.Common.{◌+◌, None, sym}
use Rattle.ledger_acts.specs.Movements.{movement_looks}
use Rattle.ledger_acts.proofs.Submits.{left_by, few_rows}
use Rattle.ledger_acts.proofs.submitting.submit_movement.Goals as goal

pub returns-clause-rows : goal.returns-clause-rows
returns-clause-rows g c =
    let movement = c.in-Some.movement in
    left_by (1 + movement_looks movement) None _ _ _ c.move_once.result (g.K.Keeper.known c.args.keeper.now) (g.K.Keeper.known c.move_once.new.keeper) (few_rows movement) c.move_once.ensures.rows

pub returns-clause-step : goal.returns-clause-step
returns-clause-step g c = c.move_once.ensures.step (sym c.in-Some.ensures)
