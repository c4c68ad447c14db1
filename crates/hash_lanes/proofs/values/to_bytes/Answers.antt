use Rattle.hash_lanes.proofs.Eight.{below_eight}
use Rattle.hash_lanes.proofs.values.to_bytes.Goals as goal

pub returns : goal.returns
returns c =
    below_eight _ c.bytes_of.ensures c.bytes_of-2.ensures c.bytes_of-3.ensures c.bytes_of-4.ensures
    c.bytes_of-5.ensures c.bytes_of-6.ensures c.bytes_of-7.ensures c.bytes_of-8.ensures
