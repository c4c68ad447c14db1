use Rattle.std.proofs.Common.{◌≡◌, ◌+◌, ◌-◌, ℕ, take, drop, sym, ap, ◌∙◌, arith}
use Rattle.ots_core.specs.SignatureText.{sig_of}
use Rattle.key_ring.specs.EnvelopeTexts.{sig_in_form}
use Rattle.key_ring.proofs.EnvelopeFields.{sig_at-long}
use Rattle.key_ring.proofs.reading.take_sig.Goals as goal

pub returns-in-Ok-clause-sig : goal.returns-in-Ok-clause-sig
returns-in-Ok-clause-sig c =
    let size : c.args.at + 2180 - c.args.at ≡ 2180 = omega arith in
    let read = c.read_sig.ensures ∙ ap (λ (n : ℕ). sig_of (take n (drop c.args.at c.args.bytes.now))) size in
    ap (sig_in_form c.args.at) (sym c.in-Ok.is ∙ read) ∙ sym (sig_at-long c.args.bytes.now c.args.at c.if-bytes-end.false)

pub returns-in-Err-clause-sig : goal.returns-in-Err-clause-sig
returns-in-Err-clause-sig c =
    let size : c.args.at + 2180 - c.args.at ≡ 2180 = omega arith in
    let read = c.read_sig.ensures ∙ ap (λ (n : ℕ). sig_of (take n (drop c.args.at c.args.bytes.now))) size in
    ap (sig_in_form c.args.at) (sym c.in-Err.is ∙ read) ∙ sym (sig_at-long c.args.bytes.now c.args.at c.if-bytes-end.false)
