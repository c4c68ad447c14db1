-- Histories of a ledger: entries that it accepted, one behind the other, over its opening rows.
-- Every amount is that of the book which they make.
use Rattle.std.specs.Prelude.{ℕ, ◌≡◌, ◌<◌, IsTrue, None, Ok, List, [], ◌∷◌, ◌++◌}
use Rattle.dh_base.specs.declared.id.Id.{Id}
use Rattle.dh_base.specs.Fields.{AreBytes}
use Rattle.act_text.specs.declared.act.Act.{Act}
use Rattle.act_text.specs.declared.act.Act.TheVariants.{Register, Pay, Escrow, Transfer}
use Rattle.act_text.specs.declared.office.Office.TheVariants.{Ledger}
use Rattle.act_text.specs.ActReading.{act_of}
use Rattle.escrow_book.specs.Opening.{Row, is_good_opening}
use Rattle.escrow_book.specs.History.{History, is_in, moves_of}
use Rattle.escrow_book.specs.Refused.{escrow_refusal, transfer_refusal, pay_refusal, settle_refusal}
use Rattle.escrow_book.specs.Reached.{are_parties, started}
use Rattle.escrow_book.specs.Base.{greatest_turn}
use Rattle.ledger_rows.specs.declared.entry.Entry.{Entry}
use Rattle.ledger_rows.specs.declared.entry.Entry.TheVariants.{Act as Accepted, Settlement}
use Rattle.ledger_rows.specs.Entries.{parties_in, used_of, with_entry}

-- The ledger of that name takes the act of the account over its book. A vote or a start is not for
-- a ledger.
abbrev pub IsTaken : List ℕ → History → Id → Act → Type 0
IsTaken name book account (Register text) =
    IsTrue (are_parties (parties_in text)) × IsTrue (is_in account (parties_in text))
IsTaken name book account (Pay house ledger to asset amount) =
    (ledger ≡ name) × (pay_refusal book account to asset amount ≡ None)
IsTaken name book account (Escrow deal ledger asset amount) =
    (ledger ≡ name) × (escrow_refusal book deal account asset amount ≡ None)
IsTaken name book account (Transfer deal ledger turn to asset amount) =
    (ledger ≡ name) × (transfer_refusal book deal account turn to asset amount ≡ None)
    × (moves_of book deal account < greatest_turn)
IsTaken name book account _ = ⊥

-- The message reads as an act that the ledger takes of the account, whose key of that number has
-- no entry yet.
pub record IsNextAct (name : List ℕ) (book : History) (front : List Entry) (account : Id) (q : ℕ)
    (message : List ℕ) : Type 0 where
  pub bytes : AreBytes message
  pub new : used_of front account q ≡ None
  pub act : Act
  pub reads : act_of Ledger message ≡ Ok act
  pub taken : IsTaken name book account act

-- the entry may stand next behind the front, which made the book
abbrev pub IsNext : List ℕ → History → List Entry → Entry → Type 0
IsNext name book front (Accepted account q message) =
    IsNextAct name book front account q message
IsNext name book front (Settlement deal outcome) = settle_refusal book deal ≡ None

-- each entry of the rest was next behind the front and the entries before it
abbrev pub AreAccepted : List ℕ → History → List Entry → List Entry → Type 0
AreAccepted name book front [] = Unit {0}
AreAccepted name book front (entry ∷ rest) =
    IsNext name book front entry
    × AreAccepted name (with_entry book entry) (front ++ entry ∷ []) rest

-- the opening rows are good, and the ledger accepted each entry behind those before it
pub record IsHistory (name : List ℕ) (rows : List Row) (entries : List Entry) : Type 0 where
  pub good : IsTrue (is_good_opening rows)
  pub accepted : AreAccepted name (started rows) [] entries
