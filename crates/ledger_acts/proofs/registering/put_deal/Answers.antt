use Rattle.std.proofs.Common.{rules, ◌≡◌, Some, Result, Ok, Err, sym, subst}
use Rattle.keeper_core.specs.StoreFaults.{store_fault_of}
use Rattle.ledger_rows.specs.ActChanges.{act_changes}
use Rattle.ledger_rows.specs.OpenDeals.{room_said, room_refusal}
use Rattle.ledger_rows.specs.RowKeys.{deal_tab}
use Rattle.ledger_rows.specs.RowReading.{LacksForm}
use Rattle.ledger_acts.specs.declared.ledger_fault.LedgerFault.{LedgerFault}
use Rattle.ledger_acts.specs.declared.ledger_fault.LedgerFault.TheVariants.{Store}
use Rattle.ledger_acts.specs.ByRows.{ActsByRows}
use Rattle.ledger_acts.specs.Registering.{registering}
use Rattle.ledger_acts.proofs.RegisterCalls.{as_reads, room_names_none}
use Rattle.ledger_acts.proofs.RowCalls.{unread, refused_act, is_made, not_kept}
use Rattle.ledger_acts.proofs.registering.put_deal.Goals as goal

pub returns-in_err-room : goal.returns-in_err-room
returns-in_err-room g c =
    let signed = c.args.signed.now in
    let account = signed.account in
    let deal = c.args.deal.now in
    let act = registering account deal c.args.text.now c.args.place.now.acts (act_changes c.args.place.now.number account signed.q signed.message.now) in
    let before = g.K.Keeper.known c.args.keeper.now in
    let after = g.K.Keeper.known c.count_open_unless.new.keeper in
    let fault = c.in_err-room.field-0.0 in
    let read = rw c.in_err-room.was at c.count_open_unless.ensures in
    let is : c.from_residual.result ≡ Err (Store fault) = search rules in
    subst (λ (r : Result (Unit {0}) LedgerFault). ActsByRows 2 (Some deal_tab) act r before after) (sym is)
    (unread after.looked 2 (Some deal_tab) act fault before after (as_reads 2 deal_tab (room_said account deal) (room_refusal deal) LacksForm (Err fault) before after read) read.looked)

pub returns-in_err-batch : goal.returns-in_err-batch
returns-in_err-batch g c =
    let signed = c.args.signed.now in
    let account = signed.account in
    let deal = c.args.deal.now in
    let act = registering account deal c.args.text.now c.args.place.now.acts (act_changes c.args.place.now.number account signed.q signed.message.now) in
    let before = g.K.Keeper.known c.args.keeper.now in
    let after = g.K.Keeper.known c.count_open_unless.new.keeper in
    let room = c.in_ok-room.room in
    let fault = c.in_err-batch.field-0.0 in
    let read = rw c.in_ok-room.was at c.count_open_unless.ensures in
    let by = rw c.in_err-batch.was at c.changes_for.ensures in
    let is : c.from_residual-in_err-batch.result ≡ Err fault = search rules in
    subst (λ (r : Result (Unit {0}) LedgerFault). ActsByRows 2 (Some deal_tab) act r before after) (sym is)
    (refused_act after.looked 2 (Some deal_tab) act room fault before after (room_names_none c.args.place.now.acts room) (as_reads 2 deal_tab (room_said account deal) (room_refusal deal) LacksForm (Ok room) before after read) read.looked by)

pub returns-in_err-commit : goal.returns-in_err-commit
returns-in_err-commit g c =
    let signed = c.args.signed.now in
    let account = signed.account in
    let deal = c.args.deal.now in
    let act = registering account deal c.args.text.now c.args.place.now.acts (act_changes c.args.place.now.number account signed.q signed.message.now) in
    let before = g.K.Keeper.known c.args.keeper.now in
    let mid = g.K.Keeper.known c.count_open_unless.new.keeper in
    let after = g.K.Keeper.known c.commit.new.self in
    let room = c.in_ok-room.room in
    let fault = c.in_err-commit.field-0.0 in
    let read = rw c.in_ok-room.was at c.count_open_unless.ensures in
    let made = rw c.in_ok-batch.was at c.changes_for.ensures in
    let left = rw c.in_err-commit.was at c.commit.ensures.leaves in
    let is : c.from_residual-in_err-commit.result ≡ Err (Store (store_fault_of fault)) = search rules in
    subst (λ (r : Result (Unit {0}) LedgerFault). ActsByRows 2 (Some deal_tab) act r before after) (sym is)
    (not_kept mid.looked 2 (Some deal_tab) act room c.in_ok-batch.batch before mid after (as_reads 2 deal_tab (room_said account deal) (room_refusal deal) LacksForm (Ok room) before mid read) read.looked made.0 made.1 fault left c.commit.ensures.looked)

pub returns : goal.returns
returns g c =
    let signed = c.args.signed.now in
    let account = signed.account in
    let deal = c.args.deal.now in
    let act = registering account deal c.args.text.now c.args.place.now.acts (act_changes c.args.place.now.number account signed.q signed.message.now) in
    let before = g.K.Keeper.known c.args.keeper.now in
    let mid = g.K.Keeper.known c.count_open_unless.new.keeper in
    let after = g.K.Keeper.known c.commit.new.self in
    let room = c.in_ok-room.room in
    let read = rw c.in_ok-room.was at c.count_open_unless.ensures in
    let made = rw c.in_ok-batch.was at c.changes_for.ensures in
    let left = rw c.in_ok-commit.was at c.commit.ensures.leaves in
    is_made mid.looked 2 (Some deal_tab) act room c.in_ok-batch.batch before mid after (as_reads 2 deal_tab (room_said account deal) (room_refusal deal) LacksForm (Ok room) before mid read) read.looked made.0 made.1 left c.commit.ensures.looked
