use Rattle.claim_core.proofs.Fitting.{link_has_text, claim_has_text}
use Rattle.claim_core.proofs.laws.read_is_writable.Goals as goal

pub returns : goal.returns
returns c = record { links = link_has_text; claims = claim_has_text }
