use Rattle.std.proofs.Common.{◌≡◌, ℕ, List, length, map, refl, ap, ◌∙◌, arith}
use Rattle.std.proofs.lemmas.Simd.{get_or-replicate}
use Rattle.ots_core.specs.Coefficients.{coefficient_of, with_checksum}
use Rattle.ots_core.specs.Chains.{chain, chain_numbers}
use Rattle.ots_core.specs.Keys.{secret_element, randomizer_of, message_digest_of}
use Rattle.ots_core.proofs.Ways.{are_ways, same_element, same_walk, values_by}
use Rattle.ots_core.proofs.signing.sign.Goals as goal

pub walk-y-requires-clause-ways : goal.walk-y-requires-clause-ways
walk-y-requires-clause-ways c = are_ways _ _ (λ i. 0) _ (λ i lt. get_or-replicate 67 i 0 0 lt) (λ i lt. refl) (λ i lt. let few = c.coefficients.ensures.four_bits i lt in (omega arith, few, omega arith))

pub returns : goal.returns
returns c =
    let ident = c.args.ident.now in
    let q = c.args.q in
    let seed = c.args.seed.now in
    let signed : List ℕ → ℕ → List ℕ = λ text i. chain ident q i 0 (coefficient_of text i) (secret_element seed ident q i) in
    let digest : List ℕ → List ℕ = λ r. with_checksum (message_digest_of ident q r c.args.msg.now) in
    let long : length c.walk-y.result ≡ 67 = omega arith in
    let text : c.with_checksum-text.result ≡ digest (randomizer_of seed ident q) = c.with_checksum-text.ensures ∙ ap with_checksum c.message_digest.ensures ∙ ap digest c.hash_at-c.ensures in
    let elements : c.walk-y.result ≡ map (signed (digest (randomizer_of seed ident q))) chain_numbers =
    values_by (signed c.with_checksum-text.result) c.walk-y.result long (λ i lt.
    same_walk ident _ q _ i _ _ 0 (coefficient_of c.with_checksum-text.result i) _ (secret_element seed ident q i) _ c.new-key.ensures.ident c.new-key.ensures.q (get_or-replicate 67 i 0 0 lt) (c.coefficients.ensures.value i lt) (same_element seed ident _ q _ i _ c.new-key.ensures.ident c.new-key.ensures.q (c.secret_elements.ensures i lt)) (c.walk-y.ensures i lt))
    ∙ ap (λ (t : List ℕ). map (signed t) chain_numbers) text in
    ap (λ (r : List ℕ). record { c = r; y = c.walk-y.result }) c.hash_at-c.ensures ∙ ap (λ (ys : List (List ℕ)). record { c = randomizer_of seed ident q; y = ys }) elements
