use Rattle.std.proofs.Common.{rules, ◌≡◌, Result, Err, ℕ, sym, subst}
use Rattle.act_text.specs.declared.office.Office.TheVariants.{Ledger}
use Rattle.act_text.specs.ActReading.{act_of}
use Rattle.ledger_acts.specs.declared.ledger_fault.LedgerFault.{LedgerFault}
use Rattle.ledger_acts.specs.LedgerFaults.{ledger_fault_of_act}
use Rattle.ledger_acts.specs.Steps.{through, LeavesByRows, SubmitsByStep}
use Rattle.ledger_acts.proofs.Submits.{unread_left, unread_step, act_step}
use Rattle.ledger_acts.proofs.submitting.submit_said.Goals as goal

pub returns-in_err-act-clause-rows : goal.returns-in_err-act-clause-rows
returns-in_err-act-clause-rows g c =
    let known = g.K.Keeper.known c.args.keeper.now in
    let tab = through (act_of Ledger c.args.env.now.message) in
    let fault = c.in_err-act.field-0.0 in
    let is : c.from_residual.result ≡ Err (ledger_fault_of_act fault) = search rules in
    subst (λ (r : Result ℕ LedgerFault). LeavesByRows tab r known known) (sym is) (unread_left tab fault known)

pub returns-in_err-act-clause-step : goal.returns-in_err-act-clause-step
returns-in_err-act-clause-step g c =
    let known = g.K.Keeper.known c.args.keeper.now in
    let fault = c.in_err-act.field-0.0 in
    let is : c.from_residual.result ≡ Err (ledger_fault_of_act fault) = search rules in
    let gives = rw c.as_slice-2.ensures at c.in_err-act.ensures.exact in
    subst (λ (r : Result ℕ LedgerFault). SubmitsByStep c.args.ledger.now c.args.place.now c.args.env.now r known known) (sym is)
    (unread_step c.args.ledger.now c.args.place.now c.args.env.now c.args.said.now.account c.args.said.now.q c.requires.says fault known gives)

pub returns-clause-step : goal.returns-clause-step
returns-clause-step g c =
    let reads = rw c.as_slice-2.ensures at c.in_ok-act.ensures.exact in
    let by = rw c.as_slice.ensures at c.submit_act.ensures.step in
    act_step c.args.ledger.now c.args.place.now c.args.env.now c.args.said.now.account c.args.said.now.q c.requires.says c.in_ok-act.act c.submit_act.result
    (g.K.Keeper.known c.args.keeper.now) (g.K.Keeper.known c.submit_act.new.keeper) reads c.in_ok-act.ensures.found.1 by
