use Rattle.std.proofs.Common.{◌≡◌, ℕ, List, length, ap, ◌∙◌, arith}
use Rattle.std.proofs.lemmas.Simd.{get_or-replicate}
use Rattle.ots_core.specs.Chains.{chain}
use Rattle.ots_core.specs.Keys.{secret_element, ends_hash}
use Rattle.ots_core.proofs.Ways.{are_ways, same_element, same_walk, values_by}
use Rattle.ots_core.proofs.key_generation.keygen.Goals as goal

pub walk-requires-clause-ways : goal.walk-requires-clause-ways
walk-requires-clause-ways c = are_ways _ _ (λ i. 0) (λ i. 15) (λ i lt. get_or-replicate 67 i 0 0 lt) (λ i lt. get_or-replicate 67 i 15 0 lt) (λ i lt. (omega arith, omega arith, omega arith))

pub returns : goal.returns
returns c =
    let ident = c.args.ident.now in
    let q = c.args.q in
    let start : ℕ → List ℕ = secret_element c.args.seed.now ident q in
    let long : length c.walk.result ≡ 67 = omega arith in
    c.ends_hash.ensures ∙ ap (ends_hash ident q) (values_by (λ i. chain ident q i 0 15 (start i)) c.walk.result long (λ i lt.
    same_walk ident _ q _ i _ _ 0 15 _ (start i) _ c.new-key.ensures.ident c.new-key.ensures.q (get_or-replicate 67 i 0 0 lt) (get_or-replicate 67 i 15 0 lt) (same_element c.args.seed.now ident _ q _ i _ c.new-key.ensures.ident c.new-key.ensures.q (c.secret_elements-starts.ensures i lt)) (c.walk.ensures i lt)))
