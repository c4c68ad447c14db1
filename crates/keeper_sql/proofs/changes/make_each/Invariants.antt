use Rattle.std.proofs.Common.{◌≡◌, IsTrue, drop}
use Rattle.sqlite.specs.Held.{state}
use Rattle.sqlite.specs.State.{HasCleanDisk, KeepsCommit, Survives}
use Rattle.keeper_core.specs.Tables.{Tables}
use Rattle.keeper_core.specs.Batches.{after_batch}
use Rattle.keeper_sql.specs.CellRows.{IsKept, tables_in}
use Rattle.keeper_sql.proofs.changes.make_each.Given as goal

abbrev pub invariant-loop-change : goal.invariant-loop-change
invariant-loop-change g l =
    let old = state g.S.Store l.fn.tx.conn.now in
    let now = state g.S.Store l.tx.conn.now in
    (l.tx.conn.ghost_name ≡ l.fn.tx.conn.ghost_name) × Survives old now (λ _. ⊥)
    × (HasCleanDisk now → IsTrue old.in_transaction → IsTrue now.in_transaction × KeepsCommit old now)
    × (HasCleanDisk now → IsTrue old.in_transaction → IsKept old.now → IsKept now.now
    × (after_batch (drop l.change-index l.changes) (tables_in now.now) ≡ after_batch l.changes (tables_in old.now)))
