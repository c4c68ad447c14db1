use Rattle.promise_met.specs.Loan.{the_deal}
use Rattle.promise_met.proofs.Dealing.{deal_is}
use Rattle.premises_matter.proofs.Parts.{unlent_lost}
use Rattle.premises_matter.proofs.Misleading.{lie_opens, misled, misled_given, misled_certified, misled_settles, misled_complies}
use Rattle.premises_matter.proofs.laws.statements_matter.Goals as goal

pub returns-clause-opens : goal.returns-clause-opens
returns-clause-opens c = lie_opens

pub returns-clause-runs : goal.returns-clause-runs
returns-clause-runs c = misled (c.compliant_deal.ensures.decided the_deal deal_is)

pub returns-clause-given : goal.returns-clause-given
returns-clause-given c = misled_given

pub returns-clause-certified : goal.returns-clause-certified
returns-clause-certified c = misled_certified

pub returns-clause-settles : goal.returns-clause-settles
returns-clause-settles c = misled_settles

pub returns-clause-complies : goal.returns-clause-complies
returns-clause-complies c = misled_complies

pub returns-clause-lost : goal.returns-clause-lost
returns-clause-lost c = unlent_lost
