use Rattle.hash_lanes.proofs.LaneWords.{chosen_below, chosen_else}
use Rattle.hash_lanes.proofs.values.choose_word.Goals as goal

pub returns-clause-below : goal.returns-clause-below
returns-clause-below c = chosen_below c.args.at c.args.end c.args.first c.args.second c.fits-at.0 c.fits-end.0 c.fits-first.0 c.fits-second.0

pub returns-clause-others : goal.returns-clause-others
returns-clause-others c = chosen_else c.args.at c.args.end c.args.first c.args.second c.fits-at.0 c.fits-end.0 c.fits-first.0 c.fits-second.0
