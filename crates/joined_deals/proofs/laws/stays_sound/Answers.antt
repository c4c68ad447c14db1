use Rattle.joined_deals.proofs.Sound.{stays_sound}
use Rattle.joined_deals.proofs.laws.stays_sound.Goals as goal

pub returns : goal.returns
returns c = stays_sound
