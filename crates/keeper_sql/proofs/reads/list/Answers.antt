use Rattle.std.proofs.Common.{◌≡◌, not, ap, ◌∙◌}
use Rattle.std.specs.FinMap as finite
use Rattle.sqlite.specs.Held.{state}
use Rattle.sqlite.specs.State.{HasCleanDisk}
use Rattle.keeper_core.specs.Tables.{rows_of}
use Rattle.keeper_sql.specs.CellRows.{tables_in}
use Rattle.keeper_sql.proofs.Failing.{clean_if_open}
use Rattle.keeper_sql.proofs.reads.list.Goals as goal

pub returns-in_err-rows-clause-stays : goal.returns-in_err-rows-clause-stays
returns-in_err-rows-clause-stays g c live kept =
    let new = state g.S.Store c.table_rows.new.conn in
    let clean : HasCleanDisk new = clean_if_open new.is_clean new.is_open (g.met.S.Store.shut_if_dirty c.table_rows.new.conn.store) live in
    let was = c.table_rows.ensures.was_open clean live in
    (was, c.table_rows.ensures.stays clean (kept was) (λ open_then. c.is_autocommit-settled.ensures.settled (c.is_autocommit-settled.ensures.value ∙ ap not c.requires) open_then) live)

pub returns-clause-stays : goal.returns-clause-stays
returns-clause-stays g c live kept =
    let new = state g.S.Store c.table_rows.new.conn in
    let clean : HasCleanDisk new = clean_if_open new.is_clean new.is_open (g.met.S.Store.shut_if_dirty c.table_rows.new.conn.store) live in
    let was = c.table_rows.ensures.was_open clean live in
    (was, c.table_rows.ensures.stays clean (kept was) (λ open_then. c.is_autocommit-settled.ensures.settled (c.is_autocommit-settled.ensures.value ∙ ap not c.requires) open_then) live)

pub returns-clause-lists : goal.returns-clause-lists
returns-clause-lists g c live kept =
    let old = state g.S.Store c.args.conn.now in
    let new = state g.S.Store c.table_rows.new.conn in
    let clean : HasCleanDisk new = clean_if_open new.is_clean new.is_open (g.met.S.Store.shut_if_dirty c.table_rows.new.conn.store) live in
    let was = c.table_rows.ensures.was_open clean live in
    c.listed_rows.ensures (rows_of c.args.tab (tables_in old.now)) (c.as_slice.ensures.value ∙ c.in_ok-rows.ensures.shows clean (kept was))
