use Rattle.std.proofs.Common.{length}
use Rattle.clear_core.proofs.Funding.{needs_fund, needs_are_least}
use Rattle.clear_core.proofs.laws.least_escrow.Goals as goal

pub returns-clause-funds : goal.returns-clause-funds
returns-clause-funds c deal kept = needs_fund (length deal.parties) deal.steps kept.kept.between

pub returns-clause-least : goal.returns-clause-least
returns-clause-least c deal kept = needs_are_least deal.steps
