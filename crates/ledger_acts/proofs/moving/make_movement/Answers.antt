use Rattle.std.proofs.Common.{rules, ◌≡◌, Result, Err, None, sym, subst}
use Rattle.keeper_core.specs.StoreFaults.{store_fault_of}
use Rattle.ledger_rows.specs.ActChanges.{act_changes}
use Rattle.ledger_acts.specs.declared.ledger_fault.LedgerFault.{LedgerFault}
use Rattle.ledger_acts.specs.declared.ledger_fault.LedgerFault.TheVariants.{Store}
use Rattle.ledger_acts.specs.ByRows.{ActsByRows}
use Rattle.ledger_acts.specs.Movements.{movement_looks, moving}
use Rattle.ledger_acts.proofs.RowCalls.{unread, refused_act, is_made, not_kept}
use Rattle.ledger_acts.proofs.Misfits.{misfit_named}
use Rattle.ledger_acts.proofs.moving.make_movement.Goals as goal

pub returns-in_err-rows : goal.returns-in_err-rows
returns-in_err-rows g c =
    let movement = c.args.movement.now in
    let n = movement_looks movement in
    let act = moving movement c.args.place.now.acts (act_changes c.args.place.now.number c.args.signed.now.account c.args.signed.now.q c.args.signed.now.message.now) in
    let before = g.K.Keeper.known c.args.keeper.now in
    let after = g.K.Keeper.known c.read_part.new.keeper in
    let fault = c.in_err-rows.field-0.0 in
    let read = rw c.in_err-rows.was at c.read_part.ensures in
    let is : c.from_residual.result ≡ Err (Store fault) = search rules in
    subst (λ (r : Result (Unit {0}) LedgerFault). ActsByRows n None act r before after) (sym is) (unread n n None act fault before after read read.looked)

pub returns-in_err-batch : goal.returns-in_err-batch
returns-in_err-batch g c =
    let movement = c.args.movement.now in
    let n = movement_looks movement in
    let act = moving movement c.args.place.now.acts (act_changes c.args.place.now.number c.args.signed.now.account c.args.signed.now.q c.args.signed.now.message.now) in
    let before = g.K.Keeper.known c.args.keeper.now in
    let after = g.K.Keeper.known c.read_part.new.keeper in
    let rows = c.in_ok-rows.rows in
    let fault = c.in_err-batch.field-0.0 in
    let read = rw c.in_ok-rows.was at c.read_part.ensures in
    let by = rw (c.in_err-batch.was, c.as_slice.ensures) at c.changes_for.ensures in
    let is : c.from_residual-in_err-batch.result ≡ Err fault = search rules in
    subst (λ (r : Result (Unit {0}) LedgerFault). ActsByRows n None act r before after) (sym is)
    (refused_act n n None act rows fault before after (misfit_named movement c.args.place.now.acts rows) read read.looked by)

pub returns-in_err-commit : goal.returns-in_err-commit
returns-in_err-commit g c =
    let movement = c.args.movement.now in
    let n = movement_looks movement in
    let act = moving movement c.args.place.now.acts (act_changes c.args.place.now.number c.args.signed.now.account c.args.signed.now.q c.args.signed.now.message.now) in
    let before = g.K.Keeper.known c.args.keeper.now in
    let mid = g.K.Keeper.known c.read_part.new.keeper in
    let after = g.K.Keeper.known c.commit.new.self in
    let rows = c.in_ok-rows.rows in
    let fault = c.in_err-commit.field-0.0 in
    let read = rw c.in_ok-rows.was at c.read_part.ensures in
    let made = rw (c.in_ok-batch.was, c.as_slice.ensures) at c.changes_for.ensures in
    let left = rw c.in_err-commit.was at c.commit.ensures.leaves in
    let is : c.from_residual-in_err-commit.result ≡ Err (Store (store_fault_of fault)) = search rules in
    subst (λ (r : Result (Unit {0}) LedgerFault). ActsByRows n None act r before after) (sym is)
    (not_kept n n None act rows c.in_ok-batch.batch before mid after read read.looked made.0 made.1 fault left c.commit.ensures.looked)

pub returns : goal.returns
returns g c =
    let movement = c.args.movement.now in
    let n = movement_looks movement in
    let act = moving movement c.args.place.now.acts (act_changes c.args.place.now.number c.args.signed.now.account c.args.signed.now.q c.args.signed.now.message.now) in
    let before = g.K.Keeper.known c.args.keeper.now in
    let mid = g.K.Keeper.known c.read_part.new.keeper in
    let after = g.K.Keeper.known c.commit.new.self in
    let rows = c.in_ok-rows.rows in
    let read = rw c.in_ok-rows.was at c.read_part.ensures in
    let made = rw (c.in_ok-batch.was, c.as_slice.ensures) at c.changes_for.ensures in
    let left = rw c.in_ok-commit.was at c.commit.ensures.leaves in
    is_made n n None act rows c.in_ok-batch.batch before mid after read read.looked made.0 made.1 left c.commit.ensures.looked
