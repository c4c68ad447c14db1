use Rattle.key_ring.proofs.Reloaded.{stays_with_key, signed_has_key}
use Rattle.key_ring.proofs.laws.same_key_again.Goals as goal

pub returns : goal.returns
returns c = record { signed = signed_has_key; stays = stays_with_key }
