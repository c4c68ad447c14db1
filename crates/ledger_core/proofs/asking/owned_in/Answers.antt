use Rattle.std.proofs.Common.{rules, ◌≡◌, List, ℕ, Result, Ok, Err, sym, subst, ◌∙◌}
use Rattle.keeper_core.specs.declared.store_fault.StoreFault.{StoreFault}
use Rattle.keeper_core.specs.Leaving.{of_store_fault}
use Rattle.ledger_rows.specs.Asking.{Asks}
use Rattle.ledger_rows.specs.RowKeys.{hold_tab}
use Rattle.ledger_rows.specs.Scanning.{rows_in, scan_refusal, amount_at, AreAmounts}
use Rattle.ledger_core.specs.declared.asking.Owned.{Owned}
use Rattle.ledger_core.proofs.Owning.{Told, moves_unread, rows_unread, owned}
use Rattle.ledger_core.proofs.asking.owned_in.Goals as goal

pub returns-in_err-moves-clause-tells : goal.returns-in_err-moves-clause-tells
returns-in_err-moves-clause-tells g c =
    let before = g.K.Keeper.known c.args.keeper.now in
    let after = g.K.Keeper.known c.read_moves.new.keeper in
    let fault = c.in_err-moves.field-0.0 in
    let read = rw c.in_err-moves.was at c.read_moves.ensures in
    let is : c.from_residual.result ≡ Err fault = search rules in
    subst (λ (r : Result Owned StoreFault). Told c.args.deal.now c.args.party.now c.requires.deal c.requires.party r before after) (sym is) (moves_unread c.args.deal.now c.args.party.now c.requires.deal c.requires.party fault before after read)

pub returns-in_err-rows-clause-tells : goal.returns-in_err-rows-clause-tells
returns-in_err-rows-clause-tells g c =
    let deal = c.args.deal.now in
    let party = c.args.party.now in
    let before = g.K.Keeper.known c.args.keeper.now in
    let mid = g.K.Keeper.known c.read_moves.new.keeper in
    let after = g.K.Keeper.known c.scan_held.new.keeper in
    let fault = c.in_err-rows.field-0.0 in
    let read = rw c.in_ok-moves.was at c.read_moves.ensures in
    let front = c.deref.ensures.value ∙ c.in_ok-front.ensures in
    let scans = subst (λ (f : List ℕ). Asks of_store_fault (rows_in hold_tab) (scan_refusal hold_tab) (λ tables. AreAmounts (amount_at hold_tab f tables)) (Err fault) mid after) front (rw c.in_err-rows.was at c.scan_held.ensures.asks) in
    let is : c.from_residual-in_err-rows.result ≡ Err fault = search rules in
    subst (λ (r : Result Owned StoreFault). Told deal party c.requires.deal c.requires.party r before after) (sym is) (rows_unread deal party c.requires.deal c.requires.party c.in_ok-moves.moves before mid after read fault scans)

pub returns-clause-tells : goal.returns-clause-tells
returns-clause-tells g c =
    let deal = c.args.deal.now in
    let party = c.args.party.now in
    let before = g.K.Keeper.known c.args.keeper.now in
    let mid = g.K.Keeper.known c.read_moves.new.keeper in
    let after = g.K.Keeper.known c.scan_held.new.keeper in
    let rows = c.in_ok-rows.rows in
    let read = rw c.in_ok-moves.was at c.read_moves.ensures in
    let front = c.deref.ensures.value ∙ c.in_ok-front.ensures in
    let scans = subst (λ (f : List ℕ). Asks of_store_fault (rows_in hold_tab) (scan_refusal hold_tab) (λ tables. AreAmounts (amount_at hold_tab f tables)) (Ok rows) mid after) front (rw c.in_ok-rows.was at c.scan_held.ensures.asks) in
    owned deal party c.requires.deal c.requires.party c.in_ok-moves.moves before mid after read rows scans
