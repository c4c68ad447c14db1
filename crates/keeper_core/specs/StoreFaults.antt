-- What a fault of kept rows tells, and why it comes.
use Rattle.std.specs.Prelude.{ℕ, ◌≡◌, List, [], ◌∷◌, codes, Option, Some, IfSome}
use Rattle.std.specs.FinMap.{get}
use Rattle.sha2.specs.Sha256.{sha256}
use Rattle.dh_base.specs.Refusals.{Told, told_of, field_of}
use Rattle.dh_base.specs.declared.id.Id.{Id}
use Rattle.dh_base.specs.declared.refusal.FieldValue.TheVariants.{Number, Hash}
use Rattle.keeper_core.specs.declared.store_fault.StoreFault.{StoreFault}
use Rattle.keeper_core.specs.declared.store_fault.StoreFault.TheVariants.{Keeper, BadRow, NoMemory}
use Rattle.keeper_core.specs.declared.keep_fault.KeepFault.{KeepFault}
use Rattle.keeper_core.specs.declared.keep_fault.KeepFault.TheVariants.{Failed, NoMemory as KeeperNoMemory}
use Rattle.keeper_core.specs.declared.row.Row.{Row}
use Rattle.keeper_core.specs.Tables.{Tables}

abbrev pub store_fault_told : StoreFault → List Told
store_fault_told Keeper = told_of 1 (codes "Keeper") [] ∷ []
store_fault_told (BadRow tab key) =
    told_of 2 (codes "BadRow")
    (field_of (codes "tab") (Number tab) ∷ field_of (codes "key") (Hash key) ∷ []) ∷ []
store_fault_told NoMemory = told_of 3 (codes "NoMemory") [] ∷ []

-- the fault that names a row by its table and the digest of its key
abbrev pub bad_row_of : ℕ → List ℕ → StoreFault
bad_row_of tab key = BadRow tab (record { 0 = sha256 key })

-- A row of the table whose key has that digest lacks its form, and stands in the map where that is
-- told.
pub record IsBadRow (LacksForm : Row → Type 0) (told : Option Tables) (tab : ℕ)
    (digest : Id) : Type 0 where
  pub row : Row
  pub named : digest.0 ≡ sha256 row.key
  pub lacks : LacksForm row
  pub stands : IfSome told (λ tables. get tables (tab, row.key) ≡ Some row.val)

-- Why a call over a keeper answers a fault: the row that is named lacks the form of its table's
-- rows. That the count rose where the keeper failed is said by what the call leaves of the keeper.
-- Want of memory has no cause.
abbrev pub HasCause : (ℕ → Row → Type 0) → Option Tables → StoreFault → Type 0
HasCause LacksForm told Keeper = Unit {0}
HasCause LacksForm told (BadRow tab key) = IsBadRow (LacksForm tab) told tab key
HasCause LacksForm told NoMemory = Unit {0}

-- the fault of a keeper's call, handed on
abbrev pub store_fault_of : KeepFault → StoreFault
store_fault_of Failed = Keeper
store_fault_of KeeperNoMemory = NoMemory

-- the text of a keeper's fault
abbrev pub keep_fault_text : KeepFault → List ℕ
keep_fault_text Failed = codes "failed"
keep_fault_text KeeperNoMemory = codes "no memory"
