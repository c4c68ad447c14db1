use Rattle.std.proofs.Common.{subst}
use Rattle.sqlite.specs.Held.{state}
use Rattle.sqlite.specs.View.{IsShaped}
use Rattle.sqlite_trees.specs.declared.store.Shape.{Shape}
use Rattle.keeper_sql.proofs.Settling.{settles}
use Rattle.keeper_sql.proofs.adoption.see_rows.Goals as goal

pub returns-clause-kept : goal.returns-clause-kept
returns-clause-kept g c clean =
    let old = state g.S.Store c.args.conn.now in
    let new = state g.S.Store c.has_strays.new.conn in
    let seen = c.in_ok-has_strays.ensures in
    let shaped = subst (λ (s : Shape). IsShaped s (old.now.trees 0)) c.in-Table.is (c.requires.shaped (seen.clean clean)) in
    (settles old new c.requires.keepers c.requires.live (seen.unchanged clean c.requires.keepers) shaped (seen.none clean c.requires.keepers c.if-branch.false)).0

pub returns-clause-map : goal.returns-clause-map
returns-clause-map g c clean =
    let old = state g.S.Store c.args.conn.now in
    let new = state g.S.Store c.has_strays.new.conn in
    let seen = c.in_ok-has_strays.ensures in
    let shaped = subst (λ (s : Shape). IsShaped s (old.now.trees 0)) c.in-Table.is (c.requires.shaped (seen.clean clean)) in
    (settles old new c.requires.keepers c.requires.live (seen.unchanged clean c.requires.keepers) shaped (seen.none clean c.requires.keepers c.if-branch.false)).1
