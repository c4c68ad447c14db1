use Rattle.promise_met.specs.Loan.{the_deal}
use Rattle.promise_met.proofs.Dealing.{deal_is}
use Rattle.premises_matter.proofs.Tearing.{torn_opens, torn, torn_given, torn_entered, torn_commits, torn_aborts}
use Rattle.premises_matter.proofs.laws.one_log_matters.Goals as goal

pub returns-clause-opens : goal.returns-clause-opens
returns-clause-opens c = torn_opens

pub returns-clause-runs : goal.returns-clause-runs
returns-clause-runs c = torn (c.compliant_deal.ensures.decided the_deal deal_is)

pub returns-clause-given : goal.returns-clause-given
returns-clause-given c = torn_given

pub returns-clause-entered : goal.returns-clause-entered
returns-clause-entered c = torn_entered

pub returns-clause-commits : goal.returns-clause-commits
returns-clause-commits c = torn_commits

pub returns-clause-aborts : goal.returns-clause-aborts
returns-clause-aborts c = torn_aborts
