-- The step of a ledger: what it replies to an act by its history, and the history behind it.
use Rattle.std.specs.Prelude.{ℕ, ◌≡◌, ◌+◌, Bool, true, false, nat_le, if◌then◌else◌, List, [], ◌∷◌, ◌++◌, length, Option, Some, None, is_some, Result, Ok, Err}
use Rattle.std.specs.List.{count_by}
use Rattle.std.specs.Option.{option_map, option_or}
use Rattle.std.specs.Str.{bytes_eq}
use Rattle.dh_base.specs.declared.id.Id.{Id}
use Rattle.dh_base.specs.Ids.{same_id}
use Rattle.act_text.specs.declared.act.Act.{Act}
use Rattle.act_text.specs.declared.act.Act.TheVariants.{Register, Pay, Escrow, Transfer}
use Rattle.act_text.specs.declared.act_fault.ActFault.{ActFault}
use Rattle.act_text.specs.declared.office.Office.TheVariants.{Ledger}
use Rattle.act_text.specs.ActReading.{act_of}
use Rattle.deal_core.specs.declared.deal_fault.DealFault.{DealFault}
use Rattle.deal_core.specs.declared.deal_fault.DealFault.TheVariants as deal_fault
use Rattle.deal_core.specs.Deals.{DealTold, index_of_account}
use Rattle.deal_core.specs.Reading.{Answers}
use Rattle.escrow_book.specs.declared.fault.BookFault.{BookFault}
use Rattle.escrow_book.specs.Opening.{Row}
use Rattle.escrow_book.specs.History.{is_known}
use Rattle.escrow_book.specs.Refused as book
use Rattle.key_ring.specs.declared.env_fault.EnvFault.{EnvFault}
use Rattle.key_ring.specs.declared.envelope.Envelope.{Envelope}
use Rattle.key_ring.specs.Answering.{IsAnswer}
use Rattle.key_ring.specs.Saying.{Says}
use Rattle.ledger_rows.specs.declared.entry.Entry.{Entry}
use Rattle.ledger_rows.specs.declared.entry.Entry.TheVariants.{Act as Accepted, Settlement}
use Rattle.ledger_rows.specs.declared.used_key.UsedKey.{UsedKey}
use Rattle.ledger_rows.specs.Entries.{digest_of, used_of, book_of}
use Rattle.ledger_rows.specs.OpenDeals.{open_deals}
use Rattle.ledger_acts.specs.declared.ledger_fault.LedgerFault.{LedgerFault}
use Rattle.ledger_acts.specs.declared.ledger_fault.LedgerFault.TheVariants.{BadEnvelope, BadAct, KeyReused, WrongLedger, WrongHouse, NotAParty, DealsFull, LedgerFull}
use Rattle.ledger_acts.specs.LedgerFaults.{ledger_fault_of, ledger_fault_of_deal}

-- Which ledger it is: its name, the id of its house, its opening rows, and the identity that its
-- opening has.
pub record Opened : Type 0 where
  pub name : List ℕ
  pub house : Id
  pub rows : List Row
  pub identity : Id

abbrev pub first_of : List (Option LedgerFault) → Option LedgerFault
first_of [] = None
first_of (refusal ∷ rest) = option_or refusal (first_of rest)

abbrev pub by_book : Option BookFault → Option LedgerFault
by_book refusal = option_map ledger_fault_of refusal

abbrev pub wrong_ledger : List ℕ → List ℕ → Option LedgerFault
wrong_ledger name named = if bytes_eq named name then None else Some (WrongLedger named)

abbrev pub wrong_house : Id → Id → Option LedgerFault
wrong_house house named = if same_id named house then None else Some (WrongHouse named)

-- ---- limits

-- the most acts of a ledger
abbrev pub most_acts : ℕ
most_acts = 1000000

-- the most deals of an account on a ledger that it registered and that aren't settled
abbrev pub most_deals : ℕ
most_deals = 64

abbrev pub is_act : Entry → Bool
is_act (Accepted account q message) = true
is_act (Settlement deal outcome) = false

abbrev pub acts_of : List Entry → ℕ
acts_of entries = count_by is_act entries

abbrev pub full : ℕ → Option LedgerFault
full acts = if nat_le most_acts acts then Some (LedgerFull most_acts) else None

-- ---- registrations

abbrev pub not_its_party : DealTold → Id → Option LedgerFault
not_its_party deal account =
    if is_some (index_of_account deal.parties account) then None else Some (NotAParty account)

abbrev pub deals_full : ℕ → Option LedgerFault
deals_full held = if nat_le most_deals held then Some (DealsFull held) else None

-- Why the account can't register in the house what a text reads as.
abbrev pub text_refusal : Id → Id → Result DealTold DealFault → Option LedgerFault
text_refusal house account (Err fault) = Some (ledger_fault_of_deal fault)
text_refusal house account (Ok deal) =
    first_of (wrong_house house deal.house ∷ not_its_party deal account ∷ [])

-- A deal that is registered here already fills nothing.
abbrev pub register_refusal : Opened → List Entry → Id → List ℕ → Result DealTold DealFault
    → Option LedgerFault
register_refusal opened entries account text answer =
    first_of (text_refusal opened.house account answer
    ∷ (if is_known (book_of opened.rows entries) (digest_of text) then None
    else deals_full (open_deals opened.rows entries account)) ∷ full (acts_of entries) ∷ [])

-- what the text reads as, where memory is left
pub record ReadsAs (text : List ℕ) (answer : Result DealTold DealFault) : Type 0 where
  pub answers : Answers text answer
  pub some : answer ≡ Err deal_fault.NoMemory → ⊥

-- ---- the first refusal of an act

-- The refusal of a payment, an escrow or a transfer of the account.
abbrev pub move_refusal : Opened → List Entry → Id → Act → Option LedgerFault
move_refusal opened entries account (Pay house ledger to asset amount) =
    first_of (wrong_ledger opened.name ledger ∷ wrong_house opened.house house
    ∷ by_book (book.pay_refusal (book_of opened.rows entries) account to asset amount)
    ∷ full (acts_of entries) ∷ [])
move_refusal opened entries account (Escrow deal ledger asset amount) =
    first_of (wrong_ledger opened.name ledger
    ∷ by_book (book.escrow_refusal (book_of opened.rows entries) deal account asset amount)
    ∷ full (acts_of entries) ∷ [])
move_refusal opened entries account (Transfer deal ledger turn to asset amount) =
    first_of (wrong_ledger opened.name ledger
    ∷ by_book
    (book.transfer_refusal (book_of opened.rows entries) deal account turn to asset amount)
    ∷ full (acts_of entries) ∷ [])
move_refusal opened entries account act = None

-- the act is refused so, or, with no refusal, it is accepted
abbrev pub IsActRefusal : Opened → List Entry → Id → Act → Option LedgerFault → Type 0
IsActRefusal opened entries account (Register text) refusal =
    (answer : Result DealTold DealFault) × ReadsAs text answer
    × (refusal ≡ register_refusal opened entries account text answer)
IsActRefusal opened entries account act refusal =
    refusal ≡ move_refusal opened entries account act

-- ---- the step

-- what is replied under a key that has signed an accepted act
abbrev pub kept_reply : UsedKey → Id → Result ℕ LedgerFault
kept_reply used message =
    if same_id message used.message then Ok used.at else Err (KeyReused used.message)

-- The reply to an act under a new key, and the entries behind it: the act is the next entry, or is
-- refused and changes nothing.
abbrev pub StepsBy : List Entry → Entry → Option LedgerFault → Result ℕ LedgerFault → List Entry
    → Type 0
StepsBy entries entry None reply later =
    (reply ≡ Ok (length entries + 1)) × (later ≡ entries ++ entry ∷ [])
StepsBy entries entry (Some fault) reply later = (reply ≡ Err fault) × (later ≡ entries)

-- Under a key that has signed an accepted act nothing else is examined, and nothing changes.
abbrev pub ActSteps : Opened → List Entry → Id → ℕ → List ℕ → Act → Option UsedKey
    → Result ℕ LedgerFault → List Entry → Type 0
ActSteps opened entries account q message act (Some used) reply later =
    (reply ≡ kept_reply used (digest_of message)) × (later ≡ entries)
ActSteps opened entries account q message act None reply later =
    (refusal : Option LedgerFault) × IsActRefusal opened entries account act refusal
    × StepsBy entries (Accepted account q message) refusal reply later

abbrev pub MessageSteps : Opened → List Entry → Id → ℕ → List ℕ → Result Act ActFault
    → Result ℕ LedgerFault → List Entry → Type 0
MessageSteps opened entries account q message (Err fault) reply later =
    (reply ≡ Err (BadAct fault)) × (later ≡ entries)
MessageSteps opened entries account q message (Ok act) reply later =
    ActSteps opened entries account q message act (used_of entries account q) reply later

-- The ledger's step: what an envelope is answered, and the entries behind it.
pub data LedgerStep (opened : Opened) (entries : List Entry) (env : Envelope)
    (reply : Result ℕ LedgerFault) (later : List Entry) : Type 0 where
  Unsaid : (fault : EnvFault)
      → IsAnswer env (Err fault) → reply ≡ Err (BadEnvelope fault) → later ≡ entries
      → LedgerStep opened entries env reply later
  Said : (account : Id) (q : ℕ) → Says env account.0 q env.message
      → MessageSteps opened entries account q env.message (act_of Ledger env.message) reply later
      → LedgerStep opened entries env reply later
