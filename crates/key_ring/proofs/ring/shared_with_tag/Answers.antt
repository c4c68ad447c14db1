use Rattle.std.proofs.Common.{◌<◌, length, refl, arith}
use Rattle.key_ring.specs.Rings.{ring_tag}
use Rattle.key_ring.proofs.RingTexts.{shared-more}
use Rattle.key_ring.proofs.ring.shared_with_tag.Goals as goal

pub loop-place-preserved : goal.loop-place-preserved
loop-place-preserved c =
    let in_text : c.loop-place.place < length c.args.ring.now = omega arith in
    let more = shared-more ring_tag c.args.ring.now c.loop-place.place (omega arith) in_text c.if-ring-place.false in
    record { tag = refl; within = omega arith; shared = omega (arith, more) }
