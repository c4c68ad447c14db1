use Rattle.hash_lanes.proofs.LaneWords.{shift_left_lanes}
use Rattle.hash_lanes.proofs.word.shift_left.Goals as goal

pub returns : goal.returns
returns c = shift_left_lanes c.args.x c.args.k c.fits-x.0 c.requires
