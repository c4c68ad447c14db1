use Rattle.sqlite.specs.Held.{state}
use Rattle.keeper_sql.proofs.Upserting.{upserts}
use Rattle.keeper_sql.proofs.changes.put_in.Goals as goal

pub returns-clause-there : goal.returns-clause-there
returns-clause-there g c clean inside kept =
    let old = state g.S.Store c.args.tx.now.conn.now in
    let new = state g.S.Store c.run_put.new.tx.conn.now in
    let ran = c.in_ok-run_put.ensures.runs clean inside in
    let there = upserts old new c.args.tab c.args.key.now c.args.val.now c.in_ok-run_put.field-0 kept ran.0 in
    record { inside = ran.1.mode; kept = there.0; map_is = there.1 }
