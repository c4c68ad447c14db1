use Rattle.std.proofs.Common.{◌≡◌, List, Some, None, MatchResult, subst}
use Rattle.keeper_core.specs.declared.row.Row.{Row}
use Rattle.ledger_rows.specs.OpenDeals.{open_rows}
use Rattle.ledger_rows.specs.RowKeys.{deal_tab}
use Rattle.ledger_rows.specs.RowReading.{LacksForm, first_formless, forms_refusal}
use Rattle.ledger_rows.specs.RowValues.{registration_in}
use Rattle.ledger_rows.proofs.TableReads.{table_answers, unread_deal}
use Rattle.ledger_rows.proofs.open_deals.count_open.Goals as goal

pub returns : goal.returns
returns g c =
    let account = c.args.account.now in
    let lists = rw c.in_ok-rows.was at c.scan.ensures.lists in
    let leaves = rw c.in_ok-rows.was at c.scan.ensures.leaves in
    let looked = rw c.in_ok-rows.was at c.scan.ensures.looked in
    table_answers registration_in deal_tab (open_rows account) LacksForm unread_deal c.in_ok-rows.rows
    (g.K.Keeper.known c.args.keeper.now) (g.K.Keeper.known c.scan.new.self) lists leaves looked c.open_among.result
    (subst
    (λ (rows : List Row). MatchResult c.open_among.result (λ count. (first_formless registration_in rows ≡ None) × (count ≡ open_rows account rows)) (λ fault. forms_refusal registration_in deal_tab rows ≡ Some fault))
    c.as_slice.ensures c.open_among.ensures)
