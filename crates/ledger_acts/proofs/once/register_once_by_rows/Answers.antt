use Rattle.std.proofs.Common.{rules, ◌≡◌, Option, Some, None, Result, Err, Ok, sym, subst, ℕ}
use Rattle.ledger_rows.specs.declared.used_key.UsedKey.{UsedKey}
use Rattle.ledger_rows.specs.RowReading.{Reads, LacksForm, used_said, used_refusal}
use Rattle.ledger_rows.specs.ActChanges.{act_changes}
use Rattle.ledger_rows.specs.Entries.{digest_of}
use Rattle.ledger_acts.specs.declared.ledger_fault.LedgerFault.{LedgerFault}
use Rattle.ledger_acts.specs.declared.ledger_fault.LedgerFault.TheVariants.{Store}
use Rattle.ledger_acts.specs.ByRows.{act_batches}
use Rattle.deal_core.specs.Deals.{DealTold}
use Rattle.deal_core.specs.declared.deal_fault.DealFault.{DealFault}
use Rattle.deal_core.specs.declared.deal_fault.DealFault.TheVariants as deal
use Rattle.ledger_rows.specs.RowKeys.{deal_tab}
use Rattle.ledger_acts.specs.LedgerStep.{text_refusal}
use Rattle.ledger_acts.specs.Registering.{registering, registration_refusal, RegistersOnceByRows}
use Rattle.ledger_acts.proofs.Onces.{key_unread, key_kept, new_refused, new_done}
use Rattle.ledger_acts.proofs.once.register_once_by_rows.Goals as goal

-- no memory was left to read the text
abbrev unread : Result DealTold DealFault
unread = Err deal.NoMemory

pub returns-in_err-used-clause-rows : goal.returns-in_err-used-clause-rows
returns-in_err-used-clause-rows g c =
    let place = c.args.place.now in
    let ledger = c.args.ledger.now in
    let account = c.args.signed.now.account in
    let q = c.args.signed.now.q in
    let message = c.args.signed.now.message.now in
    let text = c.args.text.now in
    let by_rows = registering account (digest_of text) text place.acts (act_changes place.number account q message) in
    let before = g.K.Keeper.known c.args.keeper.now in
    let after = g.K.Keeper.known c.read_used.new.keeper in
    let fault = c.in_err-used.field-0.0 in
    let read = rw c.in_err-used.was at c.read_used.ensures.reads in
    let is : c.from_residual.result ≡ Err (Store fault) = search rules in
    subst (λ (r : Result ℕ LedgerFault). RegistersOnceByRows ledger place account q message text r before after) (sym is)
    (unread, tt, key_unread 2 (Some deal_tab) account q (digest_of message) place.number (registration_refusal (text_refusal ledger.house account unread) by_rows) (act_batches by_rows) fault before after read)

pub returns-in_err-register-in-None-clause-rows : goal.returns-in_err-register-in-None-clause-rows
returns-in_err-register-in-None-clause-rows g c =
    let place = c.args.place.now in
    let ledger = c.args.ledger.now in
    let account = c.args.signed.now.account in
    let q = c.args.signed.now.q in
    let message = c.args.signed.now.message.now in
    let text = c.args.text.now in
    let by_rows = registering account (digest_of text) text place.acts (act_changes place.number account q message) in
    let before = g.K.Keeper.known c.args.keeper.now in
    let mid = g.K.Keeper.known c.read_used.new.keeper in
    let after = g.K.Keeper.known c.register.new.keeper in
    let fault = c.in_err-register-in-None.field-0.0 in
    let read = rw c.in_ok-used.was at c.read_used.ensures.reads in
    let unused : Reads 1 (used_said account q) (used_refusal account q) LacksForm (Ok None) before mid =
    subst (λ (o : Option UsedKey). Reads 1 (used_said account q) (used_refusal account q) LacksForm (Ok o) before mid) c.in-None.is read in
    let paid = rw c.in_err-register-in-None.was at c.register.ensures.rows in
    let is : c.from_residual-in_err-register-in-None.result ≡ Err fault = search rules in
    subst (λ (r : Result ℕ LedgerFault). RegistersOnceByRows ledger place account q message text r before after) (sym is)
    (paid.0, paid.1, new_refused 2 (Some deal_tab) account q (digest_of message) place.number (registration_refusal (text_refusal ledger.house account paid.0) by_rows) (act_batches by_rows) before mid after unused fault paid.2)

pub returns-in_ok-register-in-None-clause-rows : goal.returns-in_ok-register-in-None-clause-rows
returns-in_ok-register-in-None-clause-rows g c =
    let place = c.args.place.now in
    let ledger = c.args.ledger.now in
    let account = c.args.signed.now.account in
    let q = c.args.signed.now.q in
    let message = c.args.signed.now.message.now in
    let text = c.args.text.now in
    let by_rows = registering account (digest_of text) text place.acts (act_changes place.number account q message) in
    let before = g.K.Keeper.known c.args.keeper.now in
    let mid = g.K.Keeper.known c.read_used.new.keeper in
    let after = g.K.Keeper.known c.register.new.keeper in
    let read = rw c.in_ok-used.was at c.read_used.ensures.reads in
    let unused : Reads 1 (used_said account q) (used_refusal account q) LacksForm (Ok None) before mid =
    subst (λ (o : Option UsedKey). Reads 1 (used_said account q) (used_refusal account q) LacksForm (Ok o) before mid) c.in-None.is read in
    let paid = rw c.in_ok-register-in-None.was at c.register.ensures.rows in
    (paid.0, paid.1, new_done 2 (Some deal_tab) account q (digest_of message) place.number (registration_refusal (text_refusal ledger.house account paid.0) by_rows) (act_batches by_rows) before mid after unused c.in_ok-register-in-None.field-0 paid.2)

pub returns-in-Some-clause-rows : goal.returns-in-Some-clause-rows
returns-in-Some-clause-rows g c =
    let place = c.args.place.now in
    let ledger = c.args.ledger.now in
    let account = c.args.signed.now.account in
    let q = c.args.signed.now.q in
    let message = c.args.signed.now.message.now in
    let text = c.args.text.now in
    let by_rows = registering account (digest_of text) text place.acts (act_changes place.number account q message) in
    let before = g.K.Keeper.known c.args.keeper.now in
    let after = g.K.Keeper.known c.read_used.new.keeper in
    let used = c.in-Some.used in
    let read = rw c.in_ok-used.was at c.read_used.ensures.reads in
    let there : Reads 1 (used_said account q) (used_refusal account q) LacksForm (Ok (Some used)) before after =
    subst (λ (o : Option UsedKey). Reads 1 (used_said account q) (used_refusal account q) LacksForm (Ok o) before after) c.in-Some.is read in
    subst (λ (r : Result ℕ LedgerFault). RegistersOnceByRows ledger place account q message text r before after) (sym c.kept_reply.ensures)
    (unread, tt, key_kept 2 (Some deal_tab) account q (digest_of message) place.number (registration_refusal (text_refusal ledger.house account unread) by_rows) (act_batches by_rows) used before after there)
