use Rattle.key_ring.proofs.Reloaded.{none_amiss, one_list}
use Rattle.key_ring.proofs.laws.loaded_again.Goals as goal

pub returns : goal.returns
returns c = record { texts = one_list; rows = none_amiss }
