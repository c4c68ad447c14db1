use Rattle.sqlite.specs.Held.{state}
use Rattle.keeper_sql.proofs.Deleting.{removes}
use Rattle.keeper_sql.proofs.changes.take_out.Goals as goal

pub returns-clause-gone : goal.returns-clause-gone
returns-clause-gone g c clean inside kept =
    let old = state g.S.Store c.args.tx.now.conn.now in
    let new = state g.S.Store c.run_delete.new.tx.conn.now in
    let ran = c.in_ok-run_delete.ensures.runs clean inside in
    let gone = removes old new c.args.tab c.args.key.now c.in_ok-run_delete.field-0 kept ran.0 in
    record { inside = ran.1.mode; kept = gone.0; map_is = gone.1 }
