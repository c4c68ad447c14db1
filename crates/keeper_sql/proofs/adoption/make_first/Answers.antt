use Rattle.std.proofs.Common.{sym, subst, ◌∙◌}
use Rattle.sqlite.specs.Held.{state}
use Rattle.sqlite.specs.View.{IsShaped}
use Rattle.sqlite_trees.specs.declared.store.Shape.{Shape}
use Rattle.keeper_sql.proofs.Settling.{no_map}
use Rattle.keeper_sql.proofs.adoption.make_first.Goals as goal

pub returns-clause-map : goal.returns-clause-map
returns-clause-map g c clean =
    let old = state g.S.Store c.args.conn.now in
    let none = subst (λ (s : Shape). IsShaped s (old.now.trees 0)) c.in-Absent.is (c.requires.shaped (c.in_ok-create.ensures.clean clean)) in
    (c.in_ok-create.ensures.made clean c.requires.bare).1 ∙ sym (no_map old.now none)
