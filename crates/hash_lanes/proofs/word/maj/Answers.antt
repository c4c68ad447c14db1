use Rattle.hash_lanes.proofs.LaneWords.{maj_lanes}
use Rattle.hash_lanes.proofs.word.maj.Goals as goal

pub returns : goal.returns
returns c = maj_lanes c.args.x c.args.y c.args.z c.fits-x.0 c.fits-y.0 c.fits-z.0
