use Rattle.vote_log.proofs.FirstDecisive.{abort_placed}
use Rattle.vote_log.proofs.laws.abort_decides.Goals as goal

pub returns : goal.returns
returns c = λ log deal start parties place index first after here party. abort_placed log deal start parties place index first after here party
