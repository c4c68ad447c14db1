use Rattle.vote_log.proofs.Hashed.{determined}
use Rattle.vote_log.proofs.laws.heads_determine.Goals as goal

pub returns : goal.returns
returns c = determined
