-- What the faults of acts tell.
use Rattle.std.specs.Prelude.{List, [], ◌∷◌, codes}
use Rattle.dh_base.specs.Refusals.{Told, told_of, field_of}
use Rattle.dh_base.specs.declared.refusal.FieldValue.TheVariants.{Number}
use Rattle.act_text.specs.declared.act_fault.ActFault.{ActFault}
use Rattle.act_text.specs.declared.act_fault.ActFault.TheVariants.{BadTag, Short, BadField, Trailing, NoMemory}

abbrev pub act_fault_told : ActFault → List Told
act_fault_told BadTag = told_of 1 (codes "BadTag") [] ∷ []
act_fault_told (Short at) = told_of 2 (codes "Short") (field_of (codes "at") (Number at) ∷ []) ∷ []
act_fault_told (BadField at) =
    told_of 3 (codes "BadField") (field_of (codes "at") (Number at) ∷ []) ∷ []
act_fault_told (Trailing at) =
    told_of 4 (codes "Trailing") (field_of (codes "at") (Number at) ∷ []) ∷ []
act_fault_told NoMemory = told_of 5 (codes "NoMemory") [] ∷ []
