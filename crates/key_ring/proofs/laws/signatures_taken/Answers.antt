use Rattle.key_ring.proofs.EnvelopeFields.{stands-sig, sig-stands}
use Rattle.key_ring.proofs.laws.signatures_taken.Goals as goal

pub returns : goal.returns
returns c = λ bytes sig at are. (stands-sig bytes sig at are, λ (sized, stands). sig-stands bytes sig at sized stands)
