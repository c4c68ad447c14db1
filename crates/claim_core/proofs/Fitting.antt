-- What is read can be written, and is small.
use Rattle.std.proofs.Common.{◌≡◌, ◌+◌, ◌<◌, ◌^◌, List, [], ◌∷◌, ◌++◌, length, arith}
use Rattle.std.specs.List.{AllByRecursion}
use Rattle.std.specs.Int.{w32, to_be_bytes}
use Rattle.std.proofs.lemmas.List.{length-append}
use Rattle.dh_base.specs.Formats.{text_field}
use Rattle.ots_core.specs.SignatureText.{sig_text as ots_text}
use Rattle.ots_core.proofs.SignatureTexts.{length-sig_text}
use Rattle.key_ring.specs.declared.envelope.Envelope.{Envelope}
use Rattle.key_ring.specs.EnvelopeTexts.{envelope_text, IsWithinLimits}
use Rattle.cert_core.specs.declared.seat_sig.SeatSig.{SeatSig}
use Rattle.claim_core.specs.declared.link.Link.{Link}
use Rattle.claim_core.specs.declared.claim.Claim.{Claim}
use Rattle.claim_core.specs.Limits.{IsSmall}
use Rattle.claim_core.specs.ClaimTexts.{SigFits, SigsFit, LinkFits, ClaimFits, SigHasText, LinkHasText, ClaimHasText}

length_envelope : (env : Envelope) → IsWithinLimits env → length (envelope_text env) ≡ 2192 + length env.ring + length env.message
length_envelope env limits =
    let ring : length (text_field env.ring) ≡ 4 + length env.ring = length-append (to_be_bytes w32 (length env.ring)) env.ring in
    let message : length (text_field env.message) ≡ 4 + length env.message = length-append (to_be_bytes w32 (length env.message)) env.message in
    let one = length-append (text_field env.ring) (to_be_bytes w32 env.q) in
    let two = length-append (text_field env.ring ++ to_be_bytes w32 env.q) (ots_text env.sig) in
    let three = length-append (text_field env.ring ++ to_be_bytes w32 env.q ++ ots_text env.sig) (text_field env.message) in
    let sig = length-sig_text env.sig limits.sig in
    omega (arith, ring, message, one, two, three, sig)

each : {X : Type 0} (P Q : X → Type 0) (xs : List X) → ((x : X) → P x → Q x) → AllByRecursion P xs → AllByRecursion Q xs
each P Q [] f all = tt
each P Q (x ∷ xs) f all = (f x all.0, each P Q xs f all.1)

sig_has_text : (sig : SeatSig) → SigFits sig → SigHasText sig
sig_has_text sig fits = (let size = length_envelope sig.env fits.limits in let short = fits.short in omega (arith, size, short))

sigs_have_text : (sigs : List SeatSig) → SigsFit sigs → AllByRecursion SigHasText sigs
sigs_have_text sigs fit = each SigFits SigHasText sigs sig_has_text fit.1

pub link_has_text : (link : Link) → LinkFits link → LinkHasText link
link_has_text link fits = record { set_text = fits.set_text; few = (let few = fits.sigs.0 in omega arith); sigs = sigs_have_text link.sigs fits.sigs }

pub claim_has_text : (claim : Claim) → ClaimFits claim → ClaimHasText claim
claim_has_text claim fits =
    record {
      few_links = (let few = fits.links.0 in omega arith);
      links = each LinkFits LinkHasText claim.links link_has_text fits.links.1;
      few_recs = (let few = fits.recs.0 in omega arith);
      few_sigs = (let few = fits.sigs.0 in omega arith);
      sigs = sigs_have_text claim.sigs fits.sigs;
    }

pub claim_is_small : (claim : Claim) → ClaimFits claim → IsSmall claim
claim_is_small claim fits =
    record {
      links = fits.links.0;
      texts = each LinkFits (λ (link : Link). length link.set_text < 2 ^ 32) claim.links (λ link h. h.set_text) fits.links.1;
      recs = fits.recs.0;
    }
