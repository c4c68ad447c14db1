-- The deals that a book knows are those that the entries register, and no other is settled.
use Rattle.std.proofs.Common.{◌≡◌, ℕ, Bool, true, false, if◌then◌else◌, List, [], ◌∷◌, ◌++◌, Option, Some, None, is_some, Result, Ok, Err, refl, sym, ap, ◌∙◌}
use Rattle.std.specs.Option.{option_map, option_or}
use Rattle.dh_base.specs.declared.id.Id.{Id}
use Rattle.dh_base.specs.Ids.{same_id}
use Rattle.dh_base.proofs.SameIds.{id_from_same}
use Rattle.act_text.specs.declared.act.Act.{Act}
use Rattle.act_text.specs.declared.act.Act.TheVariants.{Register, Pay, Escrow, Transfer, StartDeal, Vote}
use Rattle.act_text.specs.declared.act_fault.ActFault.{ActFault}
use Rattle.act_text.specs.declared.office.Office.TheVariants.{Ledger}
use Rattle.act_text.specs.ActReading.{act_of}
use Rattle.escrow_book.specs.declared.change.Change.{Change}
use Rattle.escrow_book.specs.declared.change.Change.TheVariants.{Registered, Escrowed, Transferred, Paid, Settled}
use Rattle.escrow_book.specs.Base.{Carried}
use Rattle.escrow_book.specs.Opening.{Row}
use Rattle.escrow_book.specs.History.{History, with_change, registration, settlement, parties_of, settlement_of, is_known}
use Rattle.escrow_book.specs.Reached.{started, registered, IsGrown, IsReached, IsAccepted}
use Rattle.escrow_book.proofs.Accepting.{settle_accepted}
use Rattle.escrow_book.proofs.Lookups.{or_none, or_assoc, parties_push, parties_kept, settlement_push, both_none}
use Rattle.escrow_book.proofs.Steps.{history, by_steps, base_of}
use Rattle.escrow_book.proofs.Whole.{grown}
use Rattle.ledger_rows.specs.declared.entry.Entry.{Entry}
use Rattle.ledger_rows.specs.declared.entry.Entry.TheVariants.{Act as Accepted, Settlement}
use Rattle.ledger_rows.specs.Entries.{digest_of, parties_in, with_read, with_entry, with_entries, book_of, registered_by_act, registered_by, registration_of}

-- ---- which deals are known, and with which parties

-- the parties that the registering text names
abbrev pub parties_by : Option (Id × List ℕ) → Option (List Id)
parties_by found = option_map (λ (by : Id × List ℕ). parties_in by.1) found

both_mapped : (one other : Option (Id × List ℕ)) → option_or (parties_by one) (parties_by other) ≡ parties_by (option_or one other)
both_mapped None other = refl
both_mapped (Some by) other = refl

registered_parties : (d : Id) (book : History) (account : Id) (text : List ℕ) → parties_of (registered book (digest_of text) (parties_in text)) d ≡ option_or (parties_of book d) (parties_by (if same_id d (digest_of text) then Some (account, text) else None))
registered_parties d book account text = go (is_known book (digest_of text)) (same_id d (digest_of text)) refl refl
  where
    known_stays : (o : Option (List Id)) (rest : Option (List Id)) → is_some o ≡ true → o ≡ option_or o rest
    known_stays None rest e = absurd cc
    known_stays (Some parties) rest e = refl

    go : (known same : Bool) → is_known book (digest_of text) ≡ known → same_id d (digest_of text) ≡ same →
        parties_of (if known then book else with_change book (Registered (digest_of text) (parties_in text))) d ≡ option_or (parties_of book d) (parties_by (if same then Some (account, text) else None))
    go true true known same = known_stays (parties_of book d) (Some (parties_in text)) (ap (λ (e : Id). is_known book e) (id_from_same d (digest_of text) same) ∙ known)
    go true false known same = sym (or_none (parties_of book d))
    go false true known same = parties_push book (Registered (digest_of text) (parties_in text)) d ∙ ap (λ (b : Bool). option_or (parties_of book d) (if b then Some (parties_in text) else None)) same
    go false false known same = parties_push book (Registered (digest_of text) (parties_in text)) d ∙ ap (λ (b : Bool). option_or (parties_of book d) (if b then Some (parties_in text) else None)) same

read_parties : (d : Id) (book : History) (account : Id) (read : Result Act ActFault) → parties_of (with_read book account read) d ≡ option_or (parties_of book d) (parties_by (registered_by_act d account read))
read_parties d book account (Err fault) = sym (or_none (parties_of book d))
read_parties d book account (Ok (Register text)) = registered_parties d book account text
read_parties d book account (Ok (Pay house ledger to asset amount)) = parties_kept book (Paid account to asset amount) d refl ∙ sym (or_none (parties_of book d))
read_parties d book account (Ok (Escrow deal ledger asset amount)) = parties_kept book (Escrowed deal account asset amount) d refl ∙ sym (or_none (parties_of book d))
read_parties d book account (Ok (Transfer deal ledger turn to asset amount)) = parties_kept book (Transferred deal account to asset amount) d refl ∙ sym (or_none (parties_of book d))
read_parties d book account (Ok (StartDeal text)) = sym (or_none (parties_of book d))
read_parties d book account (Ok (Vote deal index choice)) = sym (or_none (parties_of book d))

entry_parties : (d : Id) (book : History) (entry : Entry) → parties_of (with_entry book entry) d ≡ option_or (parties_of book d) (parties_by (registered_by d entry))
entry_parties d book (Accepted account q message) = read_parties d book account (act_of Ledger message)
entry_parties d book (Settlement deal outcome) = parties_kept book (Settled deal outcome) d refl ∙ sym (or_none (parties_of book d))

parties_from : (d : Id) (entries : List Entry) (book : History) → parties_of (with_entries book entries) d ≡ option_or (parties_of book d) (parties_by (registration_of entries d))
parties_from d [] book = sym (or_none (parties_of book d))
parties_from d (entry ∷ entries) book =
    parties_from d entries (with_entry book entry) ∙ ap (λ (o : Option (List Id)). option_or o (parties_by (registration_of entries d))) (entry_parties d book entry)
    ∙ sym (or_assoc (parties_of book d) (parties_by (registered_by d entry)) (parties_by (registration_of entries d)))
    ∙ ap (option_or (parties_of book d)) (both_mapped (registered_by d entry) (registration_of entries d))

-- the book knows a deal by the text of the first entry that registers it
pub parties_by_entries : (opening : List Row) (entries : List Entry) (d : Id) → parties_of (book_of opening entries) d ≡ parties_by (registration_of entries d)
parties_by_entries opening entries d = parties_from d entries (started opening)

-- The book knows a deal exactly where an entry registers it.
pub known_is_registered : (opening : List Row) (entries : List Entry) (d : Id) → is_known (book_of opening entries) d ≡ is_some (registration_of entries d)
known_is_registered opening entries d = ap (λ (o : Option (List Id)). is_some o) (parties_by_entries opening entries d) ∙ mapped (registration_of entries d)
  where
    mapped : (o : Option (Id × List ℕ)) → is_some (parties_by o) ≡ is_some o
    mapped None = refl
    mapped (Some by) = refl

-- ---- which deals are settled

pub no_parties : (h : History) (d : Id) → is_known h d ≡ false → parties_of h d ≡ None
no_parties h d unknown = go (parties_of h d) unknown
  where
    go : (o : Option (List Id)) → is_some o ≡ false → o ≡ None
    go None e = refl
    go (Some parties) e = absurd cc

no_settlement_by : (h : History) (c : Change) (d : Id) → IsAccepted h c → parties_of h d ≡ None → settlement d c ≡ None
no_settlement_by h (Registered e parties) d a none = refl
no_settlement_by h (Escrowed e p x n) d a none = refl
no_settlement_by h (Transferred e from to x n) d a none = refl
no_settlement_by h (Paid from to x n) d a none = refl
no_settlement_by h (Settled e outcome) d a none = go (same_id d e) refl
  where
    go : (here : Bool) → same_id d e ≡ here → (if here then Some outcome else None) ≡ None
    go false is = refl
    go true is =
        let known : is_known h e ≡ true = (settle_accepted h e a).known in
        let unknown : is_known h e ≡ false = ap (λ (i : Id). is_known h i) (sym (id_from_same d e is)) ∙ ap (λ (o : Option (List Id)). is_some o) none in
        absurd cc

abbrev OpenWhereUnknown : History → Id → List Change → Type 0
OpenWhereUnknown h d front = parties_of (history (base_of h) front) d ≡ None → settlement_of (history (base_of h) front) d ≡ None

-- A deal that a reached book does not know is not settled.
pub unknown_open : (h : History) (d : Id) → IsReached h → is_known h d ≡ false → settlement_of h d ≡ None
unknown_open h d r unknown = by_steps (base_of h) (OpenWhereUnknown h d) step h.changes start (grown h r) (no_parties h d unknown)
  where
    start : OpenWhereUnknown h d []
    start none = ap (λ (base : Carried). settlement_of (record { opening = h.opening; carried = base; changes = [] }) d) r.whole

    step : (front : List Change) (c : Change) → IsGrown (history (base_of h) front) → OpenWhereUnknown h d front → IsAccepted (history (base_of h) front) c → OpenWhereUnknown h d (front ++ c ∷ [])
    step front c g before a none =
        let past = history (base_of h) front in
        let both = both_none (parties_of past d) (registration d c) (sym (parties_push past c d) ∙ none) in
        settlement_push past c d ∙ (λ i. option_or (before both.0 i) (no_settlement_by past c d a both.0 i))
