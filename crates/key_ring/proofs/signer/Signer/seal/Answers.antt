use Rattle.std.proofs.Common.{◌≡◌, ◌<◌, ℕ, List, sym, subst, ◌∙◌}
use Rattle.ots_core.specs.declared.ots_sig.OtsSig.{OtsSig}
use Rattle.ots_core.specs.Keys.{signature_of}
use Rattle.key_ring.specs.Saying.{Says}
use Rattle.key_ring.specs.Signers.{SignerTold, signer_ring, signer_account, envelope_by}
use Rattle.key_ring.specs.declared.envelope.Envelope.{Envelope}
use Rattle.key_ring.proofs.MadeRings.{says-made}
use Rattle.key_ring.proofs.signer.Signer.seal.Goals as goal

sealed : (signer : SignerTold) (q : ℕ) (ring message kept : List ℕ) (sig : OtsSig) → ring ≡ signer_ring signer → kept ≡ message → sig ≡ signature_of signer.spec.seed signer.spec.ident q message → record { ring = ring; q = q; sig = sig; message = kept } ≡ envelope_by signer q message
sealed signer q ring message kept sig is_ring is_message is_sig = λ i. record { ring = is_ring i; q = q; sig = is_sig i; message = is_message i }

pub returns-clause-says : goal.returns-clause-says
returns-clause-says c =
    let spec = c.self.inside.spec in
    let is = c.self.view_is in
    let says = subst (λ (s : SignerTold). Says (envelope_by s c.args.q c.args.message.items) (signer_account s) c.args.q c.args.message.items) is
    (says-made spec.seed spec.ident c.args.message.items spec.size c.args.q c.self.invariant.2 spec.few (subst (λ (s : SignerTold). c.args.q < s.spec.size) (sym is) c.requires.key)) in
    let sig : c.sign-sig.result ≡ signature_of c.args.self.now.spec.seed c.args.self.now.spec.ident c.args.q c.args.message.items =
    c.sign-sig.ensures ∙ (λ i. signature_of (is i).spec.seed (is i).spec.ident c.args.q (c.deref.ensures.value i)) in
    let made = sealed c.args.self.now c.args.q c.from_vec.result c.args.message.items c.from_vec-2.result c.sign-sig.result (c.from_vec.ensures ∙ c.requires.ring) c.from_vec-2.ensures sig in
    subst (λ (e : Envelope). Says e (signer_account c.args.self.now) c.args.q c.args.message.items) (sym made) says
