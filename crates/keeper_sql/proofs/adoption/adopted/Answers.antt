use Rattle.std.proofs.Common.{ap, map, ◌∙◌}
use Rattle.sqlite.specs.Held.{state}
use Rattle.sqlite.specs.State.{HasCleanDisk}
use Rattle.sqlite.specs.Tree.{Trees}
use Rattle.keeper_sql.specs.CellRows.{from_row, map_of}
use Rattle.keeper_sql.proofs.Failing.{clean_if_open}
use Rattle.keeper_sql.proofs.adoption.adopted.Goals as goal

pub returns-clause-kept : goal.returns-clause-kept
returns-clause-kept g c live =
    let new = state g.S.Store c.settle.new.conn in
    let clean : HasCleanDisk new = clean_if_open new.is_clean new.is_open (g.met.S.Store.shut_if_dirty c.settle.new.conn.store) live in
    c.in_ok-settle.ensures.kept clean

pub returns-clause-map : goal.returns-clause-map
returns-clause-map g c live =
    let new = state g.S.Store c.settle.new.conn in
    let clean : HasCleanDisk new = clean_if_open new.is_clean new.is_open (g.met.S.Store.shut_if_dirty c.settle.new.conn.store) live in
    c.in_ok-settle.ensures.map clean ∙ ap (λ (t : Trees). map_of (map from_row (t 0))) (c.in_ok-conn.ensures.same (c.in_ok-settle.ensures.clean clean))
