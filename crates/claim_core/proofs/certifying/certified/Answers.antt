use Rattle.std.proofs.Common.{◌∙◌}
use Rattle.claim_core.proofs.Leading.{certified_there}
use Rattle.claim_core.proofs.certifying.certified.Goals as goal

pub returns-clause-only : goal.returns-clause-only
returns-clause-only c = λ set certifies. c.examine.ensures.exact ∙ certified_there c.args.genesis.now c.args.claim.now set certifies
