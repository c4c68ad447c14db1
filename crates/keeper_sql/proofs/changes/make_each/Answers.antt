use Rattle.std.proofs.Common.{◌≡◌, ◌∷◌, ◌+◌, drop, sym, ap, subst, ◌∙◌, rules, arith}
use Rattle.std.proofs.lemmas.List.{drop_more}
use Rattle.sqlite.specs.Held.{state}
use Rattle.sqlite.specs.State.{HasCleanDisk}
use Rattle.sqlite.proofs.StateLemmas.{survives_then}
use Rattle.sqlite.proofs.InsideLemmas.{keeps_then}
use Rattle.keeper_core.specs.Batches.{after_batch}
use Rattle.keeper_sql.specs.CellRows.{tables_in}
use Rattle.keeper_sql.proofs.changes.make_each.Goals as goal

pub loop-change-preserved : goal.loop-change-preserved
loop-change-preserved g c =
    let old = c.args.tx.now.conn.now in
    let mid = c.loop-change.tx.conn.now in
    let now = c.make.new.tx.conn.now in
    let inv = c.loop-change.invariant in (
      c.make.ensures.same_reference ∙ inv.0,
      survives_then (state g.S.Store old) (state g.S.Store mid) (state g.S.Store now) (λ _. ⊥) (λ _. ⊥) (λ _. ⊥) (λ _ db none. none) (λ _ db none. none) inv.1 c.make.ensures.survives,
      λ clean inside.
          let before : HasCleanDisk (state g.S.Store mid) = omega (arith, c.make.ensures.survives.clean) in
          let so_far = inv.2 before inside in (
            c.in_ok-make.ensures.inside clean so_far.0,
            keeps_then (state g.S.Store old) (state g.S.Store mid) (state g.S.Store now) so_far.1 (c.in_ok-make.ensures.kept clean so_far.0),
          ),
      λ clean inside kept.
          let before : HasCleanDisk (state g.S.Store mid) = omega (arith, c.make.ensures.survives.clean) in
          let so_far = inv.3 before inside kept in
          let made = c.in_ok-make.ensures.made clean (inv.2 before inside).0 so_far.0 in
          let next : drop c.loop-change.change-index c.args.changes.now ≡ c.change-item.result ∷ drop (c.loop-change.change-index + 1) c.args.changes.now = search (rules, drop_more) in (
            made.kept,
            ap (after_batch (drop (c.loop-change.change-index + 1) c.args.changes.now)) made.map_is
                ∙ sym (ap (λ cs. after_batch cs (tables_in (state g.S.Store mid).now)) next) ∙ so_far.1,
          ),
    )
