use Rattle.hash_lanes.proofs.LaneWords.{shift_lanes}
use Rattle.hash_lanes.proofs.word.shift_right.Goals as goal

pub returns : goal.returns
returns c = shift_lanes c.args.x c.args.k c.fits-x.0 c.requires
