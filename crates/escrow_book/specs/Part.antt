-- A part of a book: it has the rows that one change touches, and says of them what the whole book
-- says.
use Rattle.std.specs.Prelude.{ℕ, ◌≡◌, ◌+◌, ◌<◌, List}
use Rattle.dh_base.specs.declared.id.Id.{Id}
use Rattle.escrow_book.specs.declared.change.Change.{Change}
use Rattle.escrow_book.specs.declared.change.Change.TheVariants.{Registered, Escrowed, Transferred, Paid, Settled}
use Rattle.escrow_book.specs.History.{History, parties_of, settlement_of, moves_of, if_abort_of, if_commit_of, free_of}

-- both histories say the same of the deal
pub record SaySameDeal (part whole : History) (deal : Id) : Type 0 where
  pub parties : parties_of part deal ≡ parties_of whole deal
  pub settled : settlement_of part deal ≡ settlement_of whole deal

-- both say the same of what the party holds in the deal
pub record SaySameHold (part whole : History) (deal party : Id) (asset : List ℕ) : Type 0 where
  pub if_commit : if_commit_of part deal party asset ≡ if_commit_of whole deal party asset
  pub if_abort : if_abort_of part deal party asset ≡ if_abort_of whole deal party asset

-- both say the same of all that the change touches
pub record AgreeOnEscrow (part whole : History) (within party : Id) (asset : List ℕ) : Type 0 where
  pub deal : SaySameDeal part whole within
  pub free : free_of part party asset ≡ free_of whole party asset
  pub hold : SaySameHold part whole within party asset

pub record AgreeOnTransfer (part whole : History) (within from to : Id) (asset : List ℕ) : Type 0
  where
    pub deal : SaySameDeal part whole within
    pub moves : moves_of part within from ≡ moves_of whole within from
    pub sender : SaySameHold part whole within from asset
    pub receiver : SaySameHold part whole within to asset

pub record AgreeOnPayment (part whole : History) (from to : Id) (asset : List ℕ) : Type 0 where
  pub sender : free_of part from asset ≡ free_of whole from asset
  pub receiver : free_of part to asset ≡ free_of whole to asset

pub record AgreeOnSettlement (part whole : History) (within : Id) : Type 0 where
  pub deal : SaySameDeal part whole within
  pub holds : (party : Id) (asset : List ℕ) → SaySameHold part whole within party asset
  pub free : (party : Id) (asset : List ℕ)
      → 0 < if_commit_of whole within party asset + if_abort_of whole within party asset
      → free_of part party asset ≡ free_of whole party asset

abbrev pub Agree : History → History → Change → Type 0
Agree part whole (Registered deal parties) = SaySameDeal part whole deal
Agree part whole (Escrowed deal party asset amount) = AgreeOnEscrow part whole deal party asset
Agree part whole (Transferred deal from to asset amount) =
    AgreeOnTransfer part whole deal from to asset
Agree part whole (Paid from to asset amount) = AgreeOnPayment part whole from to asset
Agree part whole (Settled deal outcome) = AgreeOnSettlement part whole deal
