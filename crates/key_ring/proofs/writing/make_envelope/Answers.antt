use Rattle.std.proofs.Common.{◌≡◌, ℕ, List, length, sym, ap, subst, ◌∙◌, arith}
use Rattle.sha2.specs.Sha256.{sha256}
use Rattle.ots_core.specs.declared.ots_sig.OtsSig.{OtsSig}
use Rattle.ots_core.specs.Keys.{signature_of}
use Rattle.key_ring.specs.Rings.{ring_text}
use Rattle.key_ring.specs.Making.{ring_made, envelope_made}
use Rattle.key_ring.specs.Saying.{Says}
use Rattle.key_ring.specs.declared.envelope.Envelope.{Envelope}
use Rattle.key_ring.proofs.MadeRings.{says-made}
use Rattle.key_ring.proofs.writing.make_envelope.Goals as goal

pub returns-clause-says : goal.returns-clause-says
returns-clause-says c =
    let len : length c.args.spec.now.ident ≡ 16 = omega arith in
    let says = says-made c.args.spec.now.seed c.args.spec.now.ident c.args.message.now c.args.spec.now.size c.args.q len c.args.spec.now.few c.requires.key in
    let made : record { ring = c.in_ok-ring.ring; q = c.args.q; sig = c.sign.result; message = c.from_vec.result } ≡ envelope_made c.args.spec.now.seed c.args.spec.now.ident c.args.spec.now.size c.args.q c.args.message.now =
    ap (λ (r : List ℕ). record { ring = r; q = c.args.q; sig = c.sign.result; message = c.from_vec.result }) c.in_ok-ring.ensures.text
    ∙ ap (λ (s : OtsSig). record { ring = ring_text (ring_made c.args.spec.now.seed c.args.spec.now.ident c.args.spec.now.size); q = c.args.q; sig = s; message = c.from_vec.result }) c.sign.ensures
    ∙ ap
    (λ (m : List ℕ). record { ring = ring_text (ring_made c.args.spec.now.seed c.args.spec.now.ident c.args.spec.now.size); q = c.args.q; sig = signature_of c.args.spec.now.seed c.args.spec.now.ident c.args.q c.args.message.now; message = m })
    (c.from_vec.ensures ∙ c.in_ok-message_kept.ensures.items) in
    subst (λ (e : Envelope). Says e (sha256 e.ring) c.args.q c.args.message.now) (sym made) says
