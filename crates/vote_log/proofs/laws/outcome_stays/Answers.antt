use Rattle.vote_log.proofs.Decided.{stays}
use Rattle.vote_log.proofs.laws.outcome_stays.Goals as goal

pub returns : goal.returns
returns c = λ log more deal decision e. stays log more deal decision e
