use Rattle.std.proofs.Common.{ℕ, ◌≤◌, Option, Some, sym, subst, arith}
use Rattle.ledger_rows.specs.RowKeys.{deal_tab}
use Rattle.ledger_acts.specs.Steps.{LeavesByRows}
use Rattle.ledger_acts.proofs.Submits.{left_by, moves_else}
use Rattle.ledger_acts.proofs.submitting.submit_act.Goals as goal

pub returns-in-Register-clause-rows : goal.returns-in-Register-clause-rows
returns-in-Register-clause-rows g c =
    let few : 3 ≤ 8 = omega arith in
    let by = left_by 3 (Some deal_tab) _ _ _ c.register_once.result (g.K.Keeper.known c.args.keeper.now) (g.K.Keeper.known c.register_once.new.keeper) few c.register_once.ensures.rows.2 in
    rw c.in-Register.is by

pub returns-in-Register-clause-step : goal.returns-in-Register-clause-step
returns-in-Register-clause-step g c =
    let by = rw c.as_slice.ensures at c.register_once.ensures.step in
    rw c.in-Register.is by

pub submit_movement-requires : goal.submit_movement-requires
submit_movement-requires g c = (moves_else c.args.signed.now.account c.args.act.now c.requires (λ text is. c.in_default.not-Register text is)).0

pub returns-in_default-clause-rows : goal.returns-in_default-clause-rows
returns-in_default-clause-rows g c =
    let none = (moves_else c.args.signed.now.account c.args.act.now c.requires (λ text is. c.in_default.not-Register text is)).1 in
    subst (λ (tab : Option ℕ). LeavesByRows tab c.submit_movement.result (g.K.Keeper.known c.args.keeper.now) (g.K.Keeper.known c.submit_movement.new.keeper)) (sym none) c.submit_movement.ensures.rows
