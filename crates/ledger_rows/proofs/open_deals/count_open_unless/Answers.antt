use Rattle.std.proofs.Common.{rules, ◌≡◌, ◌∙◌, ℕ, Option, Result, Err, sym, subst}
use Rattle.keeper_core.specs.declared.store_fault.StoreFault.{StoreFault}
use Rattle.ledger_rows.specs.OpenDeals.{room_said, room_refusal}
use Rattle.ledger_rows.specs.RowKeys.{deal_tab}
use Rattle.ledger_rows.specs.RowReading.{ReadsTable, LacksForm}
use Rattle.ledger_rows.proofs.RoomReads.{room_known, room_uncounted, room_counted}
use Rattle.ledger_rows.proofs.open_deals.count_open_unless.Goals as goal

pub returns-then-is_some : goal.returns-then-is_some
returns-then-is_some g c =
    room_known c.args.account.now c.args.deal.now c.in_ok-found.found (g.K.Keeper.known c.args.keeper.now) (g.K.Keeper.known c.read_registration.new.keeper)
    (sym c.is_some.ensures ∙ c.if-is_some.true) (rw c.in_ok-found.was at c.read_registration.ensures)

pub returns-in_err-count : goal.returns-in_err-count
returns-in_err-count g c =
    let account = c.args.account.now in
    let deal = c.args.deal.now in
    let before = g.K.Keeper.known c.args.keeper.now in
    let mid = g.K.Keeper.known c.read_registration.new.keeper in
    let after = g.K.Keeper.known c.count_open.new.keeper in
    let fault = c.in_err-count.field-0.0 in
    let read = rw c.in_ok-found.was at c.read_registration.ensures in
    let counted = rw c.in_err-count.was at c.count_open.ensures in
    let is : c.from_residual-in_err-count.result ≡ Err fault = search rules in
    subst (λ (r : Result (Option ℕ) StoreFault). ReadsTable 2 deal_tab (room_said account deal) (room_refusal deal) LacksForm r before after) (sym is)
    (room_uncounted account deal c.in_ok-found.found before mid after (sym c.is_some.ensures ∙ c.if-is_some.false) read fault counted)

pub returns : goal.returns
returns g c =
    let read = rw c.in_ok-found.was at c.read_registration.ensures in
    let counted = rw c.in_ok-count.was at c.count_open.ensures in
    room_counted c.args.account.now c.args.deal.now c.in_ok-found.found (g.K.Keeper.known c.args.keeper.now) (g.K.Keeper.known c.read_registration.new.keeper) (g.K.Keeper.known c.count_open.new.keeper)
    (sym c.is_some.ensures ∙ c.if-is_some.false) read c.in_ok-count.count counted
