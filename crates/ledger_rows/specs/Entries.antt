-- The history of a ledger: entries over opening rows, and the book that they make.
use Rattle.std.specs.Prelude.{ℕ, ◌+◌, ◌==◌, ◌&&◌, if◌then◌else◌, List, [], ◌∷◌, Option, Some, None, Result, Ok, Err}
use Rattle.std.specs.Option.{option_or}
use Rattle.sha2.specs.Sha256.{sha256}
use Rattle.dh_base.specs.declared.id.Id.{Id}
use Rattle.dh_base.specs.Ids.{same_id}
use Rattle.act_text.specs.declared.act.Act.{Act}
use Rattle.act_text.specs.declared.act.Act.TheVariants.{Register, Pay, Escrow, Transfer}
use Rattle.act_text.specs.declared.act_fault.ActFault.{ActFault}
use Rattle.act_text.specs.declared.office.Office.TheVariants.{Ledger}
use Rattle.act_text.specs.ActReading.{act_of}
pub use Rattle.deal_core.specs.Drafts.{parties_in}
use Rattle.escrow_book.specs.declared.change.Change.TheVariants.{Escrowed, Transferred, Paid, Settled}
use Rattle.escrow_book.specs.Opening.{Row}
use Rattle.escrow_book.specs.History.{History, with_change}
use Rattle.escrow_book.specs.Reached.{started, registered}
use Rattle.ledger_rows.specs.declared.used_key.UsedKey.{UsedKey}
use Rattle.ledger_rows.specs.declared.entry.Entry.{Entry}
use Rattle.ledger_rows.specs.declared.entry.Entry.TheVariants.{Act as Accepted, Settlement}

-- the digest of a text, as an id
abbrev pub digest_of : List ℕ → Id
digest_of text = record { 0 = sha256 text }

-- ---- the book

-- The book after an act of the account. A deal that is registered stays as it is.
abbrev pub with_act : History → Id → Act → History
with_act book account (Register text) = registered book (digest_of text) (parties_in text)
with_act book account (Pay house ledger to asset amount) =
    with_change book (Paid account to asset amount)
with_act book account (Escrow deal ledger asset amount) =
    with_change book (Escrowed deal account asset amount)
with_act book account (Transfer deal ledger turn to asset amount) =
    with_change book (Transferred deal account to asset amount)
with_act book account act = book

abbrev pub with_read : History → Id → Result Act ActFault → History
with_read book account (Ok act) = with_act book account act
with_read book account (Err fault) = book

abbrev pub with_entry : History → Entry → History
with_entry book (Accepted account q message) = with_read book account (act_of Ledger message)
with_entry book (Settlement deal outcome) = with_change book (Settled deal outcome)

abbrev pub with_entries : History → List Entry → History
with_entries book [] = book
with_entries book (entry ∷ entries) = with_entries (with_entry book entry) entries

-- the book of an opening and entries
abbrev pub book_of : List Row → List Entry → History
book_of opening entries = with_entries (started opening) entries

-- ---- who registered a deal, and with which text

abbrev pub registered_by_act : Id → Id → Result Act ActFault → Option (Id × List ℕ)
registered_by_act deal account (Ok (Register text)) =
    if same_id deal (digest_of text) then Some (account, text) else None
registered_by_act deal account _ = None

abbrev pub registered_by : Id → Entry → Option (Id × List ℕ)
registered_by deal (Accepted account q message) =
    registered_by_act deal account (act_of Ledger message)
registered_by deal (Settlement ended outcome) = None

-- the account and the text of the first entry that registers the deal
abbrev pub registration_of : List Entry → Id → Option (Id × List ℕ)
registration_of [] deal = None
registration_of (entry ∷ entries) deal =
    option_or (registered_by deal entry) (registration_of entries deal)

-- ---- which act a key has signed

-- what the key has signed, if the entry of that number is it
abbrev pub signed_by : ℕ → Id → ℕ → Entry → Option UsedKey
signed_by number account q (Accepted owner k message) =
    if same_id account owner && (q == k)
    then Some (record { at = number; message = digest_of message }) else None
signed_by number account q (Settlement deal outcome) = None

-- the first entry that is an act under that key of the account, where the first entry has that
-- number
abbrev pub used_from : ℕ → List Entry → Id → ℕ → Option UsedKey
used_from number [] account q = None
used_from number (entry ∷ entries) account q =
    option_or (signed_by number account q entry) (used_from (number + 1) entries account q)

-- entries are numbered from 1
abbrev pub used_of : List Entry → Id → ℕ → Option UsedKey
used_of entries account q = used_from 1 entries account q
