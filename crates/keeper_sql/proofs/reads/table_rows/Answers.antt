use Rattle.std.proofs.Common.{pos}
use Rattle.std.proofs.lemmas.Result.{IfOk-weaker}
use Rattle.sqlite.specs.Held.{state}
use Rattle.keeper_sql.proofs.Scanning.{shows_table, scan_leaves}
use Rattle.keeper_sql.proofs.Applying.{on_from_if}
use Rattle.keeper_sql.proofs.Failing.{fails_leaves, stays_if, plain_of, shown_open, failed_open, open_if}
use Rattle.keeper_sql.proofs.Scanning.{scan_plain}
use Rattle.keeper_sql.proofs.reads.table_rows.Goals as goal

pub returns-clause-shows : goal.returns-clause-shows
returns-clause-shows g c clean kept =
    let old = state g.S.Store c.args.conn.now in
    let new = state g.S.Store c.run_scan.new.conn in
    IfOk-weaker c.run_scan.result _ _ (λ rows shown. shows_table old new c.args.tab rows.items kept shown) (c.run_scan.ensures.shown clean)

pub returns-clause-unchanged : goal.returns-clause-unchanged
returns-clause-unchanged g c clean kept =
    let old = state g.S.Store c.args.conn.now in
    let new = state g.S.Store c.run_scan.new.conn in
    on_from_if c.run_scan.result _ _ (λ rows shown. scan_leaves old new c.args.tab rows.items kept.schema shown) (c.run_scan.ensures.shown clean)

pub returns-clause-stays : goal.returns-clause-stays
returns-clause-stays g c clean kept settled live =
    let old = state g.S.Store c.args.conn.now in
    let new = state g.S.Store c.run_scan.new.conn in
    let ok = on_from_if c.run_scan.result _ _ (λ rows shown. scan_leaves old new c.args.tab rows.items kept.schema shown) (c.run_scan.ensures.shown clean) in
    stays_if old new c.run_scan.result _ ok (c.run_scan.ensures.failed clean) (λ e. fails_leaves _ _ old new e (plain_of old _ kept.schema scan_plain)) settled live

pub returns-clause-was_open : goal.returns-clause-was_open
returns-clause-was_open g c clean live =
    let old = state g.S.Store c.args.conn.now in
    let new = state g.S.Store c.run_scan.new.conn in
    open_if old new c.run_scan.result _ _ (c.run_scan.ensures.shown clean) (c.run_scan.ensures.failed clean) (λ rows h. shown_open _ _ old new rows.items h) (λ e h. failed_open _ _ old new e h) live
