use Rattle.std.proofs.Common.{rules, ◌≡◌, List, Some, IfErr, Result, Err, sym, subst}
use Rattle.keeper_core.specs.declared.row.Row.{Row}
use Rattle.keeper_core.specs.declared.store_fault.StoreFault.{StoreFault}
use Rattle.keeper_core.specs.StoreFaults.{HasCause}
use Rattle.ledger_rows.specs.RowReading.{LacksForm}
use Rattle.ledger_rows.specs.Scanning.{rows_refusal}
use Rattle.ledger_rows.proofs.ScanReads.{scan_unformed}
use Rattle.ledger_rows.proofs.scans.scan_rows.Goals as goal

pub returns-in_err-check_forms-clause-cause : goal.returns-in_err-check_forms-clause-cause
returns-in_err-check_forms-clause-cause g c =
    let before = g.K.Keeper.known c.args.keeper.now in
    let after = g.K.Keeper.known c.scan.new.self in
    let rows = c.in_ok-rows.rows in
    let fault = c.in_err-check_forms.field-0.0 in
    let lists = rw c.in_ok-rows.was at c.scan.ensures.lists in
    let leaves = rw c.in_ok-rows.was at c.scan.ensures.leaves in
    let looked = rw c.in_ok-rows.was at c.scan.ensures.looked in
    let checked = rw c.in_err-check_forms.was at c.check_forms.ensures in
    let named = subst (λ (rs : List Row). rows_refusal c.args.tab rs ≡ Some fault) c.as_slice.ensures checked in
    let is : c.from_residual-in_err-check_forms.result ≡ Err fault = search rules in
    subst (λ (r : Result (List Row) StoreFault). IfErr r (HasCause LacksForm after.tables)) (sym is) (scan_unformed c.args.tab rows before after lists leaves looked fault named).1
