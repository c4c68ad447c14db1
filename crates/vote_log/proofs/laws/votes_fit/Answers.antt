use Rattle.vote_log.proofs.Taken.{room, vote_fits}
use Rattle.vote_log.proofs.laws.votes_fit.Goals as goal

pub returns-clause-room : goal.returns-clause-room
returns-clause-room c = λ log limit h. room log limit h

pub returns-clause-fits : goal.returns-clause-fits
returns-clause-fits c = λ log limit vote h kind e. vote_fits log limit vote h kind e
