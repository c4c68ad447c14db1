use Rattle.std.proofs.Common.{rules, ◌≡◌, Option, Some, None, Result, Err, Ok, sym, subst, ℕ}
use Rattle.ledger_rows.specs.declared.used_key.UsedKey.{UsedKey}
use Rattle.ledger_rows.specs.RowReading.{Reads, LacksForm, used_said, used_refusal}
use Rattle.ledger_rows.specs.ActChanges.{act_changes}
use Rattle.ledger_rows.specs.Entries.{digest_of}
use Rattle.ledger_acts.specs.declared.ledger_fault.LedgerFault.{LedgerFault}
use Rattle.ledger_acts.specs.declared.ledger_fault.LedgerFault.TheVariants.{Store}
use Rattle.ledger_acts.specs.ByRows.{act_refusal, act_batches}
use Rattle.ledger_acts.specs.Movements.{movement_looks, head_refusal, headed, moving, MovesOnceByRows}
use Rattle.ledger_acts.proofs.Onces.{key_unread, key_kept, new_refused, new_done}
use Rattle.ledger_acts.proofs.once.move_once_by_rows.Goals as goal

pub returns-in_err-used-clause-rows : goal.returns-in_err-used-clause-rows
returns-in_err-used-clause-rows g c =
    let movement = c.args.movement.now in
    let place = c.args.place.now in
    let ledger = c.args.ledger.now in
    let asked = c.args.act.now in
    let account = c.args.signed.now.account in
    let q = c.args.signed.now.q in
    let message = c.args.signed.now.message.now in
    let before = g.K.Keeper.known c.args.keeper.now in
    let after = g.K.Keeper.known c.read_used.new.keeper in
    let fault = c.in_err-used.field-0.0 in
    let read = rw c.in_err-used.was at c.read_used.ensures.reads in
    let is : c.from_residual.result ≡ Err (Store fault) = search rules in
    subst (λ (r : Result ℕ LedgerFault). MovesOnceByRows ledger place account q message asked movement r before after) (sym is)
    (key_unread (movement_looks movement) None account q (digest_of message) place.number (headed (head_refusal ledger asked) (act_refusal (moving movement place.acts (act_changes place.number account q message)))) (act_batches (moving movement place.acts (act_changes place.number account q message))) fault before after read)

pub returns-in_err-take_movement-in-None-clause-rows : goal.returns-in_err-take_movement-in-None-clause-rows
returns-in_err-take_movement-in-None-clause-rows g c =
    let movement = c.args.movement.now in
    let place = c.args.place.now in
    let ledger = c.args.ledger.now in
    let asked = c.args.act.now in
    let account = c.args.signed.now.account in
    let q = c.args.signed.now.q in
    let message = c.args.signed.now.message.now in
    let before = g.K.Keeper.known c.args.keeper.now in
    let mid = g.K.Keeper.known c.read_used.new.keeper in
    let after = g.K.Keeper.known c.take_movement.new.keeper in
    let fault = c.in_err-take_movement-in-None.field-0.0 in
    let read = rw c.in_ok-used.was at c.read_used.ensures.reads in
    let unused : Reads 1 (used_said account q) (used_refusal account q) LacksForm (Ok None) before mid =
    subst (λ (o : Option UsedKey). Reads 1 (used_said account q) (used_refusal account q) LacksForm (Ok o) before mid) c.in-None.is read in
    let paid = rw c.in_err-take_movement-in-None.was at c.take_movement.ensures in
    let is : c.from_residual-in_err-take_movement-in-None.result ≡ Err fault = search rules in
    subst (λ (r : Result ℕ LedgerFault). MovesOnceByRows ledger place account q message asked movement r before after) (sym is)
    (new_refused (movement_looks movement) None account q (digest_of message) place.number (headed (head_refusal ledger asked) (act_refusal (moving movement place.acts (act_changes place.number account q message)))) (act_batches (moving movement place.acts (act_changes place.number account q message))) before mid after unused fault paid)

pub returns-in_ok-take_movement-in-None-clause-rows : goal.returns-in_ok-take_movement-in-None-clause-rows
returns-in_ok-take_movement-in-None-clause-rows g c =
    let movement = c.args.movement.now in
    let place = c.args.place.now in
    let ledger = c.args.ledger.now in
    let asked = c.args.act.now in
    let account = c.args.signed.now.account in
    let q = c.args.signed.now.q in
    let message = c.args.signed.now.message.now in
    let before = g.K.Keeper.known c.args.keeper.now in
    let mid = g.K.Keeper.known c.read_used.new.keeper in
    let after = g.K.Keeper.known c.take_movement.new.keeper in
    let read = rw c.in_ok-used.was at c.read_used.ensures.reads in
    let unused : Reads 1 (used_said account q) (used_refusal account q) LacksForm (Ok None) before mid =
    subst (λ (o : Option UsedKey). Reads 1 (used_said account q) (used_refusal account q) LacksForm (Ok o) before mid) c.in-None.is read in
    let paid = rw c.in_ok-take_movement-in-None.was at c.take_movement.ensures in
    new_done (movement_looks movement) None account q (digest_of message) place.number (headed (head_refusal ledger asked) (act_refusal (moving movement place.acts (act_changes place.number account q message)))) (act_batches (moving movement place.acts (act_changes place.number account q message))) before mid after unused c.in_ok-take_movement-in-None.field-0 paid

pub returns-in-Some-clause-rows : goal.returns-in-Some-clause-rows
returns-in-Some-clause-rows g c =
    let movement = c.args.movement.now in
    let place = c.args.place.now in
    let ledger = c.args.ledger.now in
    let asked = c.args.act.now in
    let account = c.args.signed.now.account in
    let q = c.args.signed.now.q in
    let message = c.args.signed.now.message.now in
    let before = g.K.Keeper.known c.args.keeper.now in
    let after = g.K.Keeper.known c.read_used.new.keeper in
    let used = c.in-Some.used in
    let read = rw c.in_ok-used.was at c.read_used.ensures.reads in
    let there : Reads 1 (used_said account q) (used_refusal account q) LacksForm (Ok (Some used)) before after =
    subst (λ (o : Option UsedKey). Reads 1 (used_said account q) (used_refusal account q) LacksForm (Ok o) before after) c.in-Some.is read in
    subst (λ (r : Result ℕ LedgerFault). MovesOnceByRows ledger place account q message asked movement r before after) (sym c.kept_reply.ensures)
    (key_kept (movement_looks movement) None account q (digest_of message) place.number (headed (head_refusal ledger asked) (act_refusal (moving movement place.acts (act_changes place.number account q message)))) (act_batches (moving movement place.acts (act_changes place.number account q message))) used before after there)
