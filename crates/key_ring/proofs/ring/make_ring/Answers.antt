use Rattle.std.proofs.Common.{◌≡◌, ℕ, List, ◌+◌, ◌*◌, ◌++◌, map, length, sym, ap, ◌∙◌, arith}
use Rattle.std.specs.Int.{w16, to_be_bytes}
use Rattle.std.specs.List.{range_with_len, concat}
use Rattle.ots_core.specs.Keys.{public_key_of}
use Rattle.ots_core.proofs.Ends.{ends-more}
use Rattle.key_ring.specs.Rings.{ring_tag}
use Rattle.key_ring.specs.Making.{ring_made}
use Rattle.key_ring.proofs.MadeRings.{text-made, count-made, IsRing-made}
use Rattle.key_ring.proofs.RingTexts.{length-ring_text}
use Rattle.key_ring.proofs.ring.make_ring.Goals as goal

pub loop-q-preserved : goal.loop-q-preserved
loop-q-preserved c =
    let key : ℕ → List ℕ = λ q. public_key_of c.args.spec.now.seed c.args.spec.now.ident q in
    let more = ends-more key (ring_tag ++ c.args.spec.now.ident ++ to_be_bytes w16 c.args.spec.now.size) c.loop-q.q in
    let appended : c.extend_from_slice-in-loop-q.new.self.items ≡ c.loop-q.ring.items ++ key c.loop-q.q =
    c.in_ok-extend_from_slice-3.ensures.items ∙ ap (λ (t : List ℕ). c.loop-q.ring.items ++ t) (c.keygen-key.ensures ∙ ap key c.from.ensures) in
    appended ∙ ap (λ (t : List ℕ). t ++ key c.loop-q.q) c.loop-q.invariant ∙ more

pub returns-clause-text : goal.returns-clause-text
returns-clause-text c =
    let key : ℕ → List ℕ = λ q. public_key_of c.args.spec.now.seed c.args.spec.now.ident q in
    let whole : c.loop-q.q ≡ c.args.spec.now.size = omega arith in
    c.from_vec.ensures ∙ c.loop-q.invariant
    ∙ ap (λ (n : ℕ). ring_tag ++ c.args.spec.now.ident ++ to_be_bytes w16 c.args.spec.now.size ++ concat (map key (range_with_len 0 n))) whole
    ∙ sym (text-made c.args.spec.now.seed c.args.spec.now.ident c.args.spec.now.size)

pub returns-clause-len : goal.returns-clause-len
returns-clause-len c =
    let text = returns-clause-text c in
    let len : length c.args.spec.now.ident ≡ 16 = omega arith in
    ap length text
    ∙ length-ring_text (ring_made c.args.spec.now.seed c.args.spec.now.ident c.args.spec.now.size) (IsRing-made c.args.spec.now.seed c.args.spec.now.ident c.args.spec.now.size len c.args.spec.now.some c.args.spec.now.few)
    ∙ ap (λ (n : ℕ). 26 + 32 * n) (count-made c.args.spec.now.seed c.args.spec.now.ident c.args.spec.now.size)
