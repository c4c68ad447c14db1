-- What the refusals of a claim tell, and how a call ends by them.
use Rattle.std.specs.Prelude.{List, [], ◌∷◌, codes}
use Rattle.dh_base.specs.Refusals.{Told, told_of, field_of}
use Rattle.dh_base.specs.declared.refusal.FieldValue.TheVariants.{Number}
use Rattle.claim_core.specs.ClaimFaults.{claim_fault_told}
use Rattle.keeper_core.specs.StoreFaults.{store_fault_told}
use Rattle.keeper_core.specs.Leaving.{Ended, refused, of_store_fault}
use Rattle.ledger_claims.specs.declared.show_fault.ShowFault.{ShowFault}
use Rattle.ledger_claims.specs.declared.show_fault.ShowFault.TheVariants.{UnknownDeal, BadClaim, Undecided, Store}

abbrev pub show_fault_told : ShowFault → List Told
show_fault_told UnknownDeal = told_of 1 (codes "UnknownDeal") [] ∷ []
show_fault_told (BadClaim fault) = told_of 2 (codes "BadClaim") [] ∷ claim_fault_told fault
show_fault_told (Undecided len) =
    told_of 3 (codes "Undecided") (field_of (codes "len") (Number len) ∷ []) ∷ []
show_fault_told (Store fault) = told_of 4 (codes "Store") [] ∷ store_fault_told fault

abbrev pub of_show_fault : ShowFault → Ended
of_show_fault (Store fault) = of_store_fault fault
of_show_fault _ = refused
