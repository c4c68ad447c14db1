use Rattle.std.proofs.Common.{◌≡◌, false, IsTrue, sym, subst, ◌∙◌, arith}
use Rattle.sqlite.specs.View.{IsShaped, IsClean}
use Rattle.sqlite.specs.Tree.{Trees}
use Rattle.sqlite_trees.specs.declared.store.Shape.{Shape}
use Rattle.keeper_sql.proofs.Settling.{open_if_whole}
use Rattle.keeper_sql.proofs.adoption.reopened.Goals as goal

pub returns-in-Ok-clause-same : goal.returns-in-Ok-clause-same
returns-in-Ok-clause-same g c clean =
    let store = c.into_store-store.result in
    let there : IsClean (g.S.Store.view store) = omega (arith, c.in-Ok.ensures.clean, clean) in
    let whole : (g.S.Store.view store).is_broken ≡ false = sym (c.is_broken.ensures there) ∙ c.if-is_broken.false in
    let live = open_if_whole (g.S.Store.view store) (g.met.S.Store.broken_if_shut store) whole in
    c.in-Ok.ensures.trees clean ∙ (c.into_store-store.ensures.undone.undone live).0

pub returns-in-Ok-clause-shaped : goal.returns-in-Ok-clause-shaped
returns-in-Ok-clause-shaped g c clean =
    let store = c.into_store-store.result in
    let there : IsClean (g.S.Store.view store) = omega (arith, c.in-Ok.ensures.clean, clean) in
    let whole : (g.S.Store.view store).is_broken ≡ false = sym (c.is_broken.ensures there) ∙ c.if-is_broken.false in
    let ordered = g.met.S.Store.ordered store whole 0 in
    subst (λ (s : Shape). IsShaped s ((g.S.Store.view c.in-Ok.conn.store).trees 0)) (sym c.shape-shape.ensures) (subst (λ (t : Trees). IsShaped ((g.S.Store.view store).shape 0) (t 0)) (sym (c.in-Ok.ensures.trees clean)) ordered)
