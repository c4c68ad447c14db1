use Rattle.promise_met.specs.Loan.{the_deal}
use Rattle.promise_met.proofs.Dealing.{deal_is}
use Rattle.promise_met.proofs.Forging.{forged_runs, forged_text, forged_certified, forged_settles, forged_complies, forged_lost}
use Rattle.promise_met.proofs.laws.unforged_matters.Goals as goal

pub returns-clause-runs : goal.returns-clause-runs
returns-clause-runs c = forged_runs (c.compliant_deal.ensures.decided the_deal deal_is)

pub returns-clause-one_text : goal.returns-clause-one_text
returns-clause-one_text c = forged_text

pub returns-clause-certified : goal.returns-clause-certified
returns-clause-certified c = forged_certified

pub returns-clause-settles : goal.returns-clause-settles
returns-clause-settles c = forged_settles

pub returns-clause-complies : goal.returns-clause-complies
returns-clause-complies c = forged_complies

pub returns-clause-lost : goal.returns-clause-lost
returns-clause-lost c = forged_lost
