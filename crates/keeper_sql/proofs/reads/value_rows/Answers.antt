use Rattle.std.proofs.Common.{pos}
use Rattle.std.proofs.lemmas.Result.{IfOk-weaker}
use Rattle.sqlite.specs.Held.{state}
use Rattle.keeper_sql.proofs.Selecting.{shows_value, get_leaves}
use Rattle.keeper_sql.proofs.Applying.{on_from_if}
use Rattle.keeper_sql.proofs.Failing.{fails_leaves, stays_if, plain_of, shown_open, failed_open, open_if}
use Rattle.keeper_sql.proofs.Selecting.{get_plain}
use Rattle.keeper_sql.proofs.reads.value_rows.Goals as goal

pub returns-clause-shows : goal.returns-clause-shows
returns-clause-shows g c clean kept =
    let old = state g.S.Store c.args.conn.now in
    let new = state g.S.Store c.run_get.new.conn in
    IfOk-weaker c.run_get.result _ _ (λ rows shown. shows_value old new c.args.tab c.args.key.now rows.items kept shown) (c.run_get.ensures.shown clean)

pub returns-clause-unchanged : goal.returns-clause-unchanged
returns-clause-unchanged g c clean kept =
    let old = state g.S.Store c.args.conn.now in
    let new = state g.S.Store c.run_get.new.conn in
    on_from_if c.run_get.result _ _ (λ rows shown. get_leaves old new (pos c.args.tab) c.args.key.now rows.items kept.schema shown) (c.run_get.ensures.shown clean)

pub returns-clause-stays : goal.returns-clause-stays
returns-clause-stays g c clean kept settled live =
    let old = state g.S.Store c.args.conn.now in
    let new = state g.S.Store c.run_get.new.conn in
    let ok = on_from_if c.run_get.result _ _ (λ rows shown. get_leaves old new (pos c.args.tab) c.args.key.now rows.items kept.schema shown) (c.run_get.ensures.shown clean) in
    stays_if old new c.run_get.result _ ok (c.run_get.ensures.failed clean) (λ e. fails_leaves _ _ old new e (plain_of old _ kept.schema get_plain)) settled live

pub returns-clause-was_open : goal.returns-clause-was_open
returns-clause-was_open g c clean live =
    let old = state g.S.Store c.args.conn.now in
    let new = state g.S.Store c.run_get.new.conn in
    open_if old new c.run_get.result _ _ (c.run_get.ensures.shown clean) (c.run_get.ensures.failed clean) (λ rows h. shown_open _ _ old new rows.items h) (λ e h. failed_open _ _ old new e h) live
