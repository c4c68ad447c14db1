use Rattle.dh_base.proofs.Fields.{stands-name, name-stands}
use Rattle.dh_base.proofs.laws.names_taken.Goals as goal

pub returns : goal.returns
returns c = λ bytes name at are. (stands-name bytes name at are, λ (is, s). name-stands bytes name at is s)
