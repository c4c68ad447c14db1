-- A line that has no fault breaks none of the rules that are asked.
use Rattle.std.proofs.Common.{◌≡◌, Bool, true, false, Option, None, refl}
use Rattle.line_text.specs.Faults.{broken_if}

pub unbroken : {F : Type 0} (broken : Bool) (fault : F) (other : Option F) → broken_if broken fault other ≡ None → (broken ≡ false) × (other ≡ None)
unbroken true fault other e = absurd cc
unbroken false fault other e = (refl, e)
