-- What the faults of this crate's bytes tell.
use Rattle.std.specs.Prelude.{List, [], ◌∷◌, codes}
use Rattle.dh_base.specs.Refusals.{Told, told_of, field_of}
use Rattle.dh_base.specs.declared.base_fault.BaseFault.{BaseFault}
use Rattle.dh_base.specs.declared.base_fault.BaseFault.TheVariants.{Short, BadName}
use Rattle.dh_base.specs.declared.refusal.FieldValue.TheVariants.{Number}

abbrev pub base_fault_told : BaseFault → List Told
base_fault_told (Short at) =
    told_of 1 (codes "Short") (field_of (codes "at") (Number at) ∷ []) ∷ []
base_fault_told (BadName at) =
    told_of 2 (codes "BadName") (field_of (codes "at") (Number at) ∷ []) ∷ []
