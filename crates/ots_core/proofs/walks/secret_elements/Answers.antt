use Rattle.std.proofs.Common.{[], refl, ◌∙◌, arith}
use Rattle.std.proofs.lemmas.Simd.{get_or-replicate}
use Rattle.ots_core.proofs.Ways.{are_ways, same_walk, one_step}
use Rattle.ots_core.proofs.walks.secret_elements.Goals as goal

pub walk-requires-clause-ways : goal.walk-requires-clause-ways
walk-requires-clause-ways c = are_ways _ _ (λ i. 255) (λ i. 256) (λ i lt. get_or-replicate 67 i 255 0 lt) (λ i lt. get_or-replicate 67 i 256 0 lt) (λ i lt. (omega arith, omega arith, omega arith))

pub returns : goal.returns
returns c i lt =
    let seed = c.args.seed.now in
    same_walk c.args.key.now.ident _ c.args.key.now.q _ i _ _ 255 256 _ seed _ refl refl (get_or-replicate 67 i 255 0 lt) (get_or-replicate 67 i 256 0 lt) (get_or-replicate 67 i seed [] lt) (c.walk.ensures i lt)
    ∙ one_step c.args.key.now.ident c.args.key.now.q i 255 seed
