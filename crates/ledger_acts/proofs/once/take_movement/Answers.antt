use Rattle.std.proofs.Common.{rules, ◌≡◌, Option, None, Result, Err, sym, subst}
use Rattle.keeper_core.specs.Tables.{Tables}
use Rattle.ledger_rows.specs.ActChanges.{act_changes}
use Rattle.ledger_acts.specs.declared.ledger_fault.LedgerFault.{LedgerFault}
use Rattle.ledger_acts.specs.ByRows.{ByRows, act_refusal, act_batches}
use Rattle.ledger_acts.specs.Movements.{movement_looks, headed, moving, MovesByRows}
use Rattle.ledger_acts.proofs.Unasked.{unasked}
use Rattle.ledger_acts.proofs.once.take_movement.Goals as goal

pub returns-in_err-check_head : goal.returns-in_err-check_head
returns-in_err-check_head g c =
    let ledger = c.args.ledger.now in
    let place = c.args.place.now in
    let account = c.args.signed.now.account in
    let q = c.args.signed.now.q in
    let message = c.args.signed.now.message.now in
    let asked = c.args.act.now in
    let movement = c.args.movement.now in
    let act = moving movement place.acts (act_changes place.number account q message) in
    let known = g.K.Keeper.known c.args.keeper.now in
    let fault = c.in_err-check_head.field-0.0 in
    let is : c.from_residual.result ≡ Err fault = search rules in
    subst (λ (r : Result (Unit {0}) LedgerFault). MovesByRows ledger place account q message asked movement r known known) (sym is)
    (unasked (movement_looks movement) None (act_refusal act) (act_batches act) (λ (tables : Tables) (done : Unit {0}). Unit {0}) known ledger asked fault (sym c.in_err-check_head.ensures))

pub returns : goal.returns
returns g c =
    let place = c.args.place.now in
    let movement = c.args.movement.now in
    let act = moving movement place.acts (act_changes place.number c.args.signed.now.account c.args.signed.now.q c.args.signed.now.message.now) in
    subst (λ (head : Option LedgerFault). ByRows {A = Unit {0}} (movement_looks movement) None (headed head (act_refusal act)) (act_batches act) (λ (tables : Tables) (done : Unit {0}). Unit {0}) c.make_movement.result
    (g.K.Keeper.known c.args.keeper.now) (g.K.Keeper.known c.make_movement.new.keeper)) c.in_ok-check_head.ensures c.make_movement.ensures
