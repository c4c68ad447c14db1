use Rattle.keeper_core.proofs.Leaving.{never_fails, stays_unarmed}
use Rattle.keeper_core.proofs.laws.unarmed_never_fails.Goals as goal

pub returns : goal.returns
returns c = record { fails = never_fails; stays = stays_unarmed }
