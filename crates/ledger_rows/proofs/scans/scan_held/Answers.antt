use Rattle.std.proofs.Common.{◌≡◌, List, subst}
use Rattle.keeper_core.specs.declared.row.Row.{Row}
use Rattle.keeper_core.specs.Leaving.{of_store_fault}
use Rattle.keeper_core.specs.Tables.{rows_of}
use Rattle.ledger_rows.specs.Scanning.{rows_in, scan_refusal, listed, amount_at, AreAmounts}
use Rattle.ledger_rows.proofs.ScanReads.{asks_on, amounts_at}
use Rattle.ledger_rows.proofs.scans.scan_held.Goals as goal

pub returns-clause-asks : goal.returns-clause-asks
returns-clause-asks g c =
    let tab = c.args.tab in
    let front = c.args.front.now in
    let rows = c.in_ok-rows.rows in
    let held = c.in_ok-held_rows.field-0 in
    let are = subst (λ (rs : List Row). AreAmounts (listed front rs) held) c.as_slice.ensures (rw c.in_ok-held_rows.was at c.held_rows.ensures) in
    asks_on of_store_fault (rows_in tab) (scan_refusal tab) (λ tables answer. answer ≡ rows_of tab tables) (λ tables. AreAmounts (amount_at tab front tables)) rows held
    (g.K.Keeper.known c.args.keeper.now) (g.K.Keeper.known c.scan_rows.new.keeper)
    (λ tables is. amounts_at tab front tables rows held is are) (rw c.in_ok-rows.was at c.scan_rows.ensures.asks)
