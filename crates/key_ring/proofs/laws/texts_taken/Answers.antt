use Rattle.key_ring.proofs.EnvelopeFields.{stands-text, text-stands}
use Rattle.key_ring.proofs.laws.texts_taken.Goals as goal

pub returns : goal.returns
returns c = λ most bytes text at next are small. (stands-text most bytes at (text, next) are, λ (few, stands, is). text-stands most bytes text at next small few stands is)
