use Rattle.std.proofs.Common.{ℕ, ◌/◌, ◌^◌, bit_xor, slice_index, ap}
use Rattle.hash_lanes.proofs.RotatedBits.{rotate_two}
use Rattle.hash_lanes.proofs.word.small_sigma0.Goals as goal

pub returns : goal.returns
returns c j lt =
    rw (c.xor-2.ensures j lt, c.rotate-2.ensures.rotated j lt, c.xor.ensures j lt, c.rotate.ensures.rotated j lt, c.shift_right.ensures j lt)
    (ap (λ (y : ℕ). bit_xor y (slice_index c.args.x j / 2 ^ 3)) (rotate_two (slice_index c.args.x j) 11 7 (c.rotate.ensures.word j lt)))
