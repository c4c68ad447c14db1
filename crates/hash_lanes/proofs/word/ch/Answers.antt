use Rattle.hash_lanes.proofs.LaneWords.{ch_lanes}
use Rattle.hash_lanes.proofs.word.ch.Goals as goal

pub returns : goal.returns
returns c = ch_lanes c.args.x c.args.y c.args.z c.fits-x.0 c.fits-y.0 c.fits-z.0 c.fits-x.1 c.fits-y.1 c.fits-z.1
