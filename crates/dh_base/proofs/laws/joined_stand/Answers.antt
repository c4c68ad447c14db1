use Rattle.std.proofs.Common.{refl}
use Rattle.dh_base.proofs.Fields.{StandsAt-parts, StandsAt-append}
use Rattle.dh_base.proofs.laws.joined_stand.Goals as goal

pub returns : goal.returns
returns c = λ first second bytes at. (StandsAt-parts first second bytes at, λ (before, behind). StandsAt-append first second bytes at _ refl before behind)
