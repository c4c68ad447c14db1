use Rattle.std.proofs.Common.{slice_index}
use Rattle.hash_lanes.proofs.RotatedBits.{rotate_three}
use Rattle.hash_lanes.proofs.word.big_sigma1.Goals as goal

pub returns : goal.returns
returns c j lt =
    rw (c.rotate-3.ensures.rotated j lt, c.xor-2.ensures j lt, c.rotate-2.ensures.rotated j lt, c.xor.ensures j lt, c.rotate.ensures.rotated j lt)
    (rotate_three (slice_index c.args.x j) 14 5 6 (c.rotate.ensures.word j lt))
