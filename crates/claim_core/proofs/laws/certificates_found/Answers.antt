use Rattle.claim_core.proofs.ClaimsFound.{certificate_is}
use Rattle.claim_core.proofs.laws.certificates_found.Goals as goal

pub returns : goal.returns
returns c = certificate_is
