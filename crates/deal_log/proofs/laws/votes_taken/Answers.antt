use Rattle.deal_log.specs.Postings.{vote_entry}
use Rattle.deal_log.specs.VoteLogs.{most_records}
use Rattle.deal_log.proofs.Kept.{vote_kind_is}
use Rattle.deal_log.proofs.Taking.{vote_not_full, vote_named}
use Rattle.deal_log.proofs.laws.votes_taken.Goals as goal

pub returns-clause-room : goal.returns-clause-room
returns-clause-room c = λ log is. c.votes_fit.ensures.room log.entries most_records is.reached

pub returns-clause-named : goal.returns-clause-named
returns-clause-named c = λ log account choice index deal named is e. vote_named log account choice index deal named is.texts e

pub returns-clause-never_full : goal.returns-clause-never_full
returns-clause-never_full c = λ log account choice index deal len owed.
    vote_not_full log account choice index deal len owed
    (c.votes_fit.ensures.never_full log.entries most_records (vote_entry choice index deal) len owed (vote_kind_is choice index deal))
