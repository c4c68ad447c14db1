use Rattle.key_ring.proofs.MadeRings.{says-made}
use Rattle.key_ring.proofs.laws.made_says.Goals as goal

pub returns : goal.returns
returns c = says-made
