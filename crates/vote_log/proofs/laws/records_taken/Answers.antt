use Rattle.vote_log.proofs.RecordTexts.{takes_record, same_record}
use Rattle.vote_log.proofs.laws.records_taken.Goals as goal

pub returns-clause-taken : goal.returns-clause-taken
returns-clause-taken c = takes_record

pub returns-clause-one : goal.returns-clause-one
returns-clause-one c = same_record
