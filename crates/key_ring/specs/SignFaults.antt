-- What the refusals of a signer tell, and when they come.
use Rattle.std.specs.Prelude.{ℕ, List, [], ◌∷◌, codes}
use Rattle.dh_base.specs.Refusals.{Told, told_of, field_of}
use Rattle.dh_base.specs.declared.refusal.FieldValue.TheVariants.{Number}
use Rattle.keeper_core.specs.declared.store_fault.StoreFault.TheVariants.{Keeper, BadRow, NoMemory}
use Rattle.keeper_core.specs.StoreFaults.{store_fault_told}
use Rattle.keeper_core.specs.Leaving.{Ended, refused, of_store_fault}
use Rattle.key_ring.specs.Signers.{SignerTold, IsSpent}
use Rattle.key_ring.specs.declared.sign_fault.SignFault.{SignFault}
use Rattle.key_ring.specs.declared.sign_fault.SignFault.TheVariants.{KeysSpent, Store}

abbrev pub sign_fault_told : SignFault → List Told
sign_fault_told (KeysSpent used size) =
    told_of 1 (codes "KeysSpent")
    (field_of (codes "used") (Number used) ∷ field_of (codes "size") (Number size) ∷ []) ∷ []
sign_fault_told (Store fault) = told_of 2 (codes "Store") [] ∷ store_fault_told fault

-- how the call ended
abbrev pub of_sign_fault : SignFault → Ended
of_sign_fault (KeysSpent used size) = refused
of_sign_fault (Store fault) = of_store_fault fault

-- A text is not kept because the keeper failed, or for want of memory.
abbrev pub IsStoreFault : SignFault → Type 0
IsStoreFault (KeysSpent used size) = ⊥
IsStoreFault (Store Keeper) = Unit {0}
IsStoreFault (Store (BadRow tab key)) = ⊥
IsStoreFault (Store NoMemory) = Unit {0}

-- Why a text is refused: too few keys are left, or it is not kept.
abbrev pub IsRefusedFor : SignerTold → List ℕ → ℕ → SignFault → Type 0
IsRefusedFor signer text reserve (KeysSpent used size) = IsSpent signer text reserve used size
IsRefusedFor signer text reserve (Store fault) = IsStoreFault (Store fault)
