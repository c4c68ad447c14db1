use Rattle.std.proofs.Common.{◌≡◌, ℕ, List, [], get_or, length, map, ap, refl, ◌∙◌, arith}
use Rattle.std.proofs.lemmas.Simd.{get_or-replicate}
use Rattle.ots_core.specs.Coefficients.{coefficient_of, with_checksum}
use Rattle.ots_core.specs.Chains.{chain, chain_numbers}
use Rattle.ots_core.specs.Keys.{ends_hash, message_digest_of}
use Rattle.ots_core.proofs.Ways.{are_ways, same_walk, values_by}
use Rattle.ots_core.proofs.verifying.candidate.Goals as goal

pub walk-requires-clause-ways : goal.walk-requires-clause-ways
walk-requires-clause-ways c = are_ways _ _ _ (λ i. 15) (λ i lt. refl) (λ i lt. get_or-replicate 67 i 15 0 lt) (λ i lt. let few = c.coefficients.ensures.four_bits i lt in (few, omega arith, omega arith))

pub returns : goal.returns
returns c =
    let ident = c.args.ident.now in
    let q = c.args.q in
    let y = c.args.sig.now.y in
    let ends_from : List ℕ → ℕ → List ℕ = λ text i. chain ident q i (coefficient_of text i) 15 (get_or y i []) in
    let long : length c.walk.result ≡ 67 = omega arith in
    let text : c.with_checksum-text.result ≡ with_checksum (message_digest_of ident q c.args.sig.now.c c.args.msg.now) = c.with_checksum-text.ensures ∙ ap with_checksum c.message_digest.ensures in
    c.ends_hash.ensures ∙ ap (ends_hash ident q) (values_by (ends_from c.with_checksum-text.result) c.walk.result long (λ i lt.
    same_walk ident _ q _ i _ _ (coefficient_of c.with_checksum-text.result i) 15 _ (get_or y i []) _ c.new.ensures.ident c.new.ensures.q (c.coefficients.ensures.value i lt) (get_or-replicate 67 i 15 0 lt) refl (c.walk.ensures i lt)))
    ∙ ap (λ (t : List ℕ). ends_hash ident q (map (ends_from t) chain_numbers)) text
