use Rattle.std.proofs.Common.{◌≡◌, length, arith}
use Rattle.hash_lanes.proofs.Eight.{below_eight}
use Rattle.hash_lanes.proofs.Bytes.{value_again}
use Rattle.hash_lanes.proofs.values.words_of.Goals as goal

pub returns : goal.returns
returns c =
    let long : length c.args.bytes.now ≡ 32 = omega arith in
    value_again _ c.args.bytes.now long c.fits-bytes
    (below_eight _ c.load_be.ensures c.load_be-2.ensures c.load_be-3.ensures c.load_be-4.ensures c.load_be-5.ensures c.load_be-6.ensures c.load_be-7.ensures c.load_be-8.ensures)
