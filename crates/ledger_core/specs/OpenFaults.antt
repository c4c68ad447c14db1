-- What the refusals to open a ledger tell, and how a call ends by them.
use Rattle.std.specs.Prelude.{List, [], ◌∷◌, codes}
use Rattle.dh_base.specs.Refusals.{Told, told_of, field_of}
use Rattle.dh_base.specs.declared.refusal.FieldValue.TheVariants.{Number, Hash}
use Rattle.keeper_core.specs.StoreFaults.{store_fault_told}
use Rattle.keeper_core.specs.Leaving.{Ended, refused, of_store_fault}
use Rattle.ledger_core.specs.declared.open_fault.OpenFault.{OpenFault}
use Rattle.ledger_core.specs.declared.open_fault.OpenFault.TheVariants.{BadOpening, OtherOpening, Store}

abbrev pub open_fault_told : OpenFault → List Told
open_fault_told (BadOpening row) =
    told_of 1 (codes "BadOpening") (field_of (codes "row") (Number row) ∷ []) ∷ []
open_fault_told (OtherOpening kept) =
    told_of 2 (codes "OtherOpening") (field_of (codes "kept") (Hash kept) ∷ []) ∷ []
open_fault_told (Store fault) = told_of 3 (codes "Store") [] ∷ store_fault_told fault

abbrev pub of_open_fault : OpenFault → Ended
of_open_fault (Store fault) = of_store_fault fault
of_open_fault _ = refused
