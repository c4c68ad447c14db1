use Rattle.deal_log.proofs.Rebuilt.{refused_no_log, one_refused}
use Rattle.deal_log.proofs.laws.one_refused.Goals as goal

pub returns-clause-none : goal.returns-clause-none
returns-clause-none c = refused_no_log

pub returns-clause-one : goal.returns-clause-one
returns-clause-one c = one_refused
