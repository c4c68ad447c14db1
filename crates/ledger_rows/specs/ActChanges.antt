-- The changes of accepted acts to a ledger's tables, and what the tables stand for then.
use Rattle.std.specs.Prelude.{ℕ, ◌≡◌, ◌+◌, ◌<◌, ◌^◌, Bool, if◌then◌else◌, List, [], ◌∷◌, ◌++◌, length, None, IsTrue, Ok}
use Rattle.dh_base.specs.declared.id.Id.{Id}
use Rattle.dh_base.specs.Names.{is_name}
use Rattle.act_text.specs.declared.act.Act.TheVariants.{Register, Pay, Escrow, Transfer}
use Rattle.act_text.specs.declared.office.Office.TheVariants.{Ledger}
use Rattle.act_text.specs.ActReading.{act_of}
use Rattle.escrow_book.specs.declared.change.Change.TheVariants.{Paid, Escrowed, Transferred}
use Rattle.escrow_book.specs.Opening.{Row}
use Rattle.escrow_book.specs.History.{is_known, with_change, free_of, moves_of}
use Rattle.escrow_book.specs.Reached.{are_parties, IsReached, IsAccepted}
use Rattle.escrow_book.specs.Refused.{pay_refusal, escrow_refusal}
use Rattle.keeper_core.specs.declared.change.Change.{Change}
use Rattle.keeper_core.specs.Tables.{Tables}
use Rattle.keeper_core.specs.Batches.{after_batch}
use Rattle.ledger_rows.specs.declared.entry.Entry.{Entry}
use Rattle.ledger_rows.specs.declared.entry.Entry.TheVariants.{Act}
use Rattle.ledger_rows.specs.declared.hold.Hold.{Hold}
use Rattle.ledger_rows.specs.declared.registration.Registration.{Registration}
use Rattle.ledger_rows.specs.RowChanges.{free_change, deal_change, hold_change, moves_change, used_change, entry_change}
use Rattle.ledger_rows.specs.Entries.{digest_of, parties_in, book_of, used_of}
use Rattle.ledger_rows.specs.LedgerTables.{hold_of, StandsFor}

-- The key has signed the act, which is the entry of that number.
abbrev pub act_changes : ℕ → Id → ℕ → List ℕ → List Change
act_changes number account q message =
    used_change account q (record { at = number; message = digest_of message })
    ∷ entry_change number (Act account q message) ∷ []

-- The key is of an account's, and has signed no entry.
pub record IsNew (entries : List Entry) (account : Id) (q : ℕ) : Type 0 where
  pub wide : length account.0 ≡ 32
  pub small : q < 2 ^ 32
  pub unused : used_of entries account q ≡ None

-- what sender and receiver can spend behind a payment, and the act
abbrev pub payment_changes : Id → Id → List ℕ → ℕ → ℕ → List Change → List Change
payment_changes from to asset sender receiver act =
    free_change from asset sender ∷ free_change to asset receiver ∷ act

-- Tables that stand for a history stand for the history with an accepted payment, once its changes
-- are made.
abbrev pub PaymentStands : Type 0
PaymentStands = (tables : Tables) (opening : List Row) (entries : List Entry)
    (from : Id) (q : ℕ) (message : List ℕ)
    (house : Id) (ledger : List ℕ) (to : Id) (asset : List ℕ) (amount : ℕ) →
    let book = book_of opening entries in
    let later = with_change book (Paid from to asset amount) in
    StandsFor tables opening entries → IsReached book → IsNew entries from q →
    act_of Ledger message ≡ Ok (Pay house ledger to asset amount) →
    length to.0 ≡ 32 → IsTrue (is_name asset) → length entries < 2 ^ 63 →
    pay_refusal book from to asset amount ≡ None →
    StandsFor
    (after_batch
    (payment_changes from to asset (free_of later from asset) (free_of later to asset)
    (act_changes (length entries + 1) from q message)) tables)
    opening (entries ++ Act from q message ∷ [])

-- what the party can spend and what it owns in the deal behind an escrow, and the act
abbrev pub escrow_changes : Id → Id → List ℕ → ℕ → Hold → List Change → List Change
escrow_changes deal party asset free hold act =
    free_change party asset free ∷ hold_change deal party asset hold ∷ act

-- The same of an accepted escrow.
abbrev pub EscrowStands : Type 0
EscrowStands = (tables : Tables) (opening : List Row) (entries : List Entry)
    (party : Id) (q : ℕ) (message : List ℕ)
    (deal : Id) (ledger : List ℕ) (asset : List ℕ) (amount : ℕ) →
    let book = book_of opening entries in
    let later = with_change book (Escrowed deal party asset amount) in
    StandsFor tables opening entries → IsReached book → IsNew entries party q →
    act_of Ledger message ≡ Ok (Escrow deal ledger asset amount) →
    length deal.0 ≡ 32 → IsTrue (is_name asset) → length entries < 2 ^ 63 →
    escrow_refusal book deal party asset amount ≡ None →
    StandsFor
    (after_batch
    (escrow_changes deal party asset (free_of later party asset) (hold_of later deal party asset)
    (act_changes (length entries + 1) party q message)) tables)
    opening (entries ++ Act party q message ∷ [])

-- how many transfers the sender has made, what sender and receiver own in the deal behind a
-- transfer, and the act
abbrev pub transfer_changes : Id → Id → Id → List ℕ → ℕ → Hold → Hold → List Change → List Change
transfer_changes deal from to asset moves sender receiver act =
    moves_change deal from moves ∷ hold_change deal from asset sender
    ∷ hold_change deal to asset receiver ∷ act

-- The same of an accepted transfer.
abbrev pub TransferStands : Type 0
TransferStands = (tables : Tables) (opening : List Row) (entries : List Entry)
    (from : Id) (q : ℕ) (message : List ℕ)
    (deal : Id) (ledger : List ℕ) (turn : ℕ) (to : Id) (asset : List ℕ) (amount : ℕ) →
    let book = book_of opening entries in
    let later = with_change book (Transferred deal from to asset amount) in
    StandsFor tables opening entries → IsReached book → IsNew entries from q →
    act_of Ledger message ≡ Ok (Transfer deal ledger turn to asset amount) →
    length deal.0 ≡ 32 → length to.0 ≡ 32 → IsTrue (is_name asset) → length entries < 2 ^ 63 →
    IsAccepted book (Transferred deal from to asset amount) →
    StandsFor
    (after_batch
    (transfer_changes deal from to asset (moves_of later deal from)
    (hold_of later deal from asset) (hold_of later deal to asset)
    (act_changes (length entries + 1) from q message)) tables)
    opening (entries ++ Act from q message ∷ [])

-- what an account registers by a deal's text, while the deal has not ended
abbrev pub new_registration : Id → List ℕ → Registration
new_registration account text = record { registrant = account; settled = None; text = text }

-- The deal, where it was unknown, and the act. A deal that is registered stays as it is.
abbrev pub registration_changes : Bool → Id → Registration → List Change → List Change
registration_changes known deal registration act =
    if known then act else deal_change deal registration ∷ act

-- The same of an accepted registration.
abbrev pub RegistrationStands : Type 0
RegistrationStands = (tables : Tables) (opening : List Row) (entries : List Entry)
    (account : Id) (q : ℕ) (message : List ℕ) (text : List ℕ) →
    let book = book_of opening entries in
    StandsFor tables opening entries → IsReached book → IsNew entries account q →
    act_of Ledger message ≡ Ok (Register text) → IsTrue (are_parties (parties_in text)) →
    length entries < 2 ^ 63 →
    StandsFor
    (after_batch
    (registration_changes (is_known book (digest_of text)) (digest_of text)
    (new_registration account text) (act_changes (length entries + 1) account q message)) tables)
    opening (entries ++ Act account q message ∷ [])
