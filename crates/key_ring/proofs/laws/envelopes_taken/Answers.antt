use Rattle.key_ring.proofs.EnvelopeFields.{stands-envelope, envelope-stands}
use Rattle.key_ring.proofs.laws.envelopes_taken.Goals as goal

pub returns : goal.returns
returns c = λ bytes at read are. (stands-envelope bytes at read are, envelope-stands bytes at read)
