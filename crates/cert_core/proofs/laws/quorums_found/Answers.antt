use Rattle.cert_core.proofs.QuorumsFound.{quorum_found}
use Rattle.cert_core.proofs.laws.quorums_found.Goals as goal

pub returns : goal.returns
returns c = quorum_found
