use Rattle.std.proofs.Common.{◌≡◌, ◌<◌, ℕ, length, slice_get, is_some, refl, sym, ap, ◌∙◌, arith, Option}
use Rattle.seat_rows.proofs.Signed.{found_here, goes_on, there_is}
use Rattle.seat_rows.proofs.seat_texts.has_signed.Goals as goal

pub loop-q-preserved : goal.loop-q-preserved
loop-q-preserved c =
    let texts = c.args.signer.now.texts in
    let within : c.loop-q.q < length texts = omega arith in
    goes_on texts c.args.text.now c.loop-q.q (slice_get texts c.loop-q.q) refl (there_is texts c.loop-q.q within) (sym c.is_signed_by.ensures ∙ c.if-is_signed_by.false) ∙ c.loop-q.invariant

pub returns-then-is_signed_by : goal.returns-then-is_signed_by
returns-then-is_signed_by c =
    let texts = c.args.signer.now.texts in
    sym (ap (λ (o : Option ℕ). is_some o) (sym c.loop-q.invariant ∙ found_here texts c.args.text.now c.loop-q.q (slice_get texts c.loop-q.q) refl (sym c.is_signed_by.ensures ∙ c.if-is_signed_by.true)))
