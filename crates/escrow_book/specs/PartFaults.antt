-- What the refusals of a part's rows tell.
use Rattle.std.specs.Prelude.{List, [], ◌∷◌, codes}
use Rattle.dh_base.specs.Refusals.{Told, told_of, field_of}
use Rattle.dh_base.specs.declared.refusal.FieldValue.TheVariants.{Number}
use Rattle.escrow_book.specs.declared.part_fault.PartFault.{PartFault}
use Rattle.escrow_book.specs.declared.part_fault.PartFault.TheVariants.{BadRows, SumTooLarge, NoMemory}

abbrev pub part_fault_told : PartFault → List Told
part_fault_told (BadRows row) =
    told_of 1 (codes "BadRows") (field_of (codes "row") (Number row) ∷ []) ∷ []
part_fault_told (SumTooLarge row) =
    told_of 2 (codes "SumTooLarge") (field_of (codes "row") (Number row) ∷ []) ∷ []
part_fault_told NoMemory = told_of 3 (codes "NoMemory") [] ∷ []
