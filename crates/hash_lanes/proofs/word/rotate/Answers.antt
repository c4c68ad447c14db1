use Rattle.hash_lanes.proofs.LaneWords.{below, rotate_lanes}
use Rattle.hash_lanes.proofs.word.rotate.Goals as goal

pub returns-clause-rotated : goal.returns-clause-rotated
returns-clause-rotated c = rotate_lanes c.args.x c.args.k c.fits-x.0 c.requires.low c.requires.high

pub returns-clause-word : goal.returns-clause-word
returns-clause-word c j lt = below c.args.x j c.fits-x.0 c.fits-x.1 lt
