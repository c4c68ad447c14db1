-- What the faults of sets tell.
use Rattle.std.specs.Prelude.{List, [], ◌∷◌, codes}
use Rattle.dh_base.specs.Refusals.{Told, told_of, field_of}
use Rattle.dh_base.specs.declared.refusal.FieldValue.TheVariants.{Number}
use Rattle.cert_core.specs.declared.set_fault.SetFault.{SetFault}
use Rattle.cert_core.specs.declared.set_fault.SetFault.TheVariants.{BadTag, BadF, BadLength, SeatTwice}

abbrev pub set_fault_told : SetFault → List Told
set_fault_told BadTag = told_of 1 (codes "BadTag") [] ∷ []
set_fault_told (BadF f) = told_of 2 (codes "BadF") (field_of (codes "f") (Number f) ∷ []) ∷ []
set_fault_told (BadLength len) =
    told_of 3 (codes "BadLength") (field_of (codes "len") (Number len) ∷ []) ∷ []
set_fault_told (SeatTwice seat) =
    told_of 4 (codes "SeatTwice") (field_of (codes "seat") (Number seat) ∷ []) ∷ []
