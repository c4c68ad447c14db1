-- What the refusals of a ledger's questions tell, and how a call ends by them.
use Rattle.std.specs.Prelude.{List, [], ◌∷◌, codes}
use Rattle.dh_base.specs.Refusals.{Told, told_of, field_of}
use Rattle.dh_base.specs.declared.refusal.FieldValue.TheVariants.{Hash}
use Rattle.keeper_core.specs.StoreFaults.{store_fault_told}
use Rattle.keeper_core.specs.Leaving.{Ended, refused, of_store_fault}
use Rattle.ledger_core.specs.declared.ask_fault.AskFault.{AskFault}
use Rattle.ledger_core.specs.declared.ask_fault.AskFault.TheVariants.{UnknownDeal, NotAParty, Store}

abbrev pub ask_fault_told : AskFault → List Told
ask_fault_told UnknownDeal = told_of 1 (codes "UnknownDeal") [] ∷ []
ask_fault_told (NotAParty account) =
    told_of 2 (codes "NotAParty") (field_of (codes "account") (Hash account) ∷ []) ∷ []
ask_fault_told (Store fault) = told_of 3 (codes "Store") [] ∷ store_fault_told fault

abbrev pub of_ask_fault : AskFault → Ended
of_ask_fault (Store fault) = of_store_fault fault
of_ask_fault _ = refused
