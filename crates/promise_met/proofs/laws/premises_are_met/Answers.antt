use Rattle.promise_met.specs.Loan.{the_deal}
use Rattle.promise_met.proofs.Dealing.{deal_is}
use Rattle.promise_met.proofs.Running.{runs}
use Rattle.promise_met.proofs.Meeting.{opens, given, certified_lists, settles, complies, paid}
use Rattle.promise_met.proofs.laws.premises_are_met.Goals as goal

pub returns-clause-opens : goal.returns-clause-opens
returns-clause-opens c = opens

pub returns-clause-runs : goal.returns-clause-runs
returns-clause-runs c = runs (c.compliant_deal.ensures.decided the_deal deal_is)

pub returns-clause-given : goal.returns-clause-given
returns-clause-given c = given

pub returns-clause-certified : goal.returns-clause-certified
returns-clause-certified c = certified_lists

pub returns-clause-settles : goal.returns-clause-settles
returns-clause-settles c = settles

pub returns-clause-complies : goal.returns-clause-complies
returns-clause-complies c = complies

pub returns-clause-paid : goal.returns-clause-paid
returns-clause-paid c = paid
