use Rattle.claim_core.proofs.Formats.{link_read, claim_read}
use Rattle.claim_core.proofs.laws.claims_read.Goals as goal

pub returns : goal.returns
returns c = record { links = link_read; claims = claim_read }
