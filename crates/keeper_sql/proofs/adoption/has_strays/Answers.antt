use Rattle.std.proofs.Common.{◌≡◌, Bool, true, false, not, IsTrue, sym, ◌∙◌, refl}
use Rattle.sqlite.specs.Held.{state}
use Rattle.keeper_sql.proofs.Straying.{none_strays, stray_leaves}
use Rattle.keeper_sql.proofs.adoption.has_strays.Goals as goal

true_if : (b : Bool) → not b ≡ false → IsTrue b
true_if true e = refl
true_if false e = absurd cc

pub returns-clause-none : goal.returns-clause-none
returns-clause-none g c clean has no_stray =
    let old = state g.S.Store c.args.conn.now in
    let new = state g.S.Store c.run_strays.new.conn in
    none_strays old new c.in_ok-rows.rows.items has (c.in_ok-rows.ensures.shown clean) (sym c.as_slice.ensures.value ∙ c.shows_none-none.ensures (true_if c.shows_none-none.result no_stray))

pub returns-clause-unchanged : goal.returns-clause-unchanged
returns-clause-unchanged g c clean has =
    let old = state g.S.Store c.args.conn.now in
    let new = state g.S.Store c.run_strays.new.conn in
    stray_leaves old new c.in_ok-rows.rows.items has (c.in_ok-rows.ensures.shown clean)
