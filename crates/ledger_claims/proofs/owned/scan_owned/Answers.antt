use Rattle.std.proofs.Common.{◌≡◌, List, None, MatchResult, subst}
use Rattle.keeper_core.specs.declared.row.Row.{Row}
use Rattle.ledger_rows.specs.RowKeys.{hold_tab}
use Rattle.ledger_rows.specs.Scanning.{first_unformed, rows_refusal}
use Rattle.ledger_claims.specs.Payees.{IsRowFault, owned_of}
use Rattle.ledger_claims.proofs.PayeesRead.{owned_scanned}
use Rattle.ledger_claims.proofs.owned.scan_owned.Goals as goal

pub returns-clause-cause : goal.returns-clause-cause
returns-clause-cause g c =
    let deal = c.args.deal.now in
    let lists = rw c.in_ok-rows.was at c.scan.ensures.lists in
    let leaves = rw c.in_ok-rows.was at c.scan.ensures.leaves in
    let looked = rw c.in_ok-rows.was at c.scan.ensures.looked in
    (owned_scanned deal c.in_ok-rows.rows (g.K.Keeper.known c.args.keeper.now) (g.K.Keeper.known c.scan.new.self) lists leaves looked c.owned_among.result
    (subst
    (λ (rows : List Row). MatchResult c.owned_among.result (λ owned. (first_unformed hold_tab rows ≡ None) × (owned ≡ owned_of deal rows)) (IsRowFault (rows_refusal hold_tab rows)))
    c.as_slice.ensures c.owned_among.ensures)).1
