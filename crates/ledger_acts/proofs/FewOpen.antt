-- No account has more deals open than the most, whatever a ledger accepts.
use Rattle.std.proofs.Common.{◌≡◌, ℕ, ◌+◌, ◌<◌, ◌≤◌, Bool, true, false, if◌then◌else◌, List, [], ◌∷◌, ◌++◌, Option, Some, None, is_some, Result, Ok, Err, refl, sym, ap, subst, ◌∙◌, append-nil, append_assoc, arith, inl, inr}
use Rattle.std.specs.Option.{option_or}
use Rattle.std.proofs.lemmas.Bool.{cases_Bool}
use Rattle.dh_base.specs.declared.id.Id.{Id}
use Rattle.dh_base.specs.declared.outcome.Outcome.{Outcome}
use Rattle.dh_base.specs.Ids.{same_id}
use Rattle.dh_base.proofs.SameIds.{id_from_same}
use Rattle.act_text.specs.declared.act.Act.{Act}
use Rattle.act_text.specs.declared.act.Act.TheVariants.{Register, Pay, Escrow, Transfer, StartDeal, Vote}
use Rattle.act_text.specs.declared.act_fault.ActFault.{ActFault}
use Rattle.act_text.specs.declared.office.Office.TheVariants.{Ledger}
use Rattle.act_text.specs.ActReading.{act_of}
use Rattle.deal_core.specs.declared.deal_fault.DealFault.{DealFault}
use Rattle.deal_core.specs.Deals.{DealTold}
use Rattle.deal_core.specs.Drafts.{parties_in}
use Rattle.escrow_book.specs.declared.change.Change.{Change}
use Rattle.escrow_book.specs.declared.change.Change.TheVariants.{Registered, Paid, Escrowed, Transferred, Settled}
use Rattle.escrow_book.specs.History.{History, with_change, settlement, settlement_of, is_known}
use Rattle.escrow_book.proofs.Lookups.{settlement_push}
use Rattle.key_ring.specs.declared.envelope.Envelope.{Envelope}
use Rattle.ledger_rows.specs.declared.entry.Entry.{Entry}
use Rattle.ledger_rows.specs.declared.entry.Entry.TheVariants.{Act as Accepted, Settlement}
use Rattle.ledger_rows.specs.declared.used_key.UsedKey.{UsedKey}
use Rattle.ledger_rows.specs.Entries.{digest_of, with_read, with_entry, book_of, registration_of, used_of}
use Rattle.ledger_rows.specs.OpenDeals.{deal_of, deal_by, is_new_open, open_behind, open_deals}
use Rattle.ledger_rows.proofs.Histories.{one_more}
use Rattle.ledger_rows.proofs.KnownDeals.{known_is_registered}
use Rattle.ledger_acts.specs.declared.ledger_fault.LedgerFault.{LedgerFault}
use Rattle.ledger_acts.specs.LedgerStep.{Opened, acts_of, most_deals, deals_full, full, text_refusal, register_refusal, IsActRefusal, ActSteps, MessageSteps, LedgerStep, Unsaid, Said}
use Rattle.ledger_acts.specs.FewOpenDeals.{HasFewOpen, FewStayOpen}

-- ---- what is settled stays so

abbrev StaySettled : History → History → Type 0
StaySettled book later = (d : Id) → is_some (settlement_of book d) ≡ true → is_some (settlement_of later d) ≡ true

still_some : (o p : Option Outcome) → is_some o ≡ true → is_some (option_or o p) ≡ true
still_some None p e = absurd cc
still_some (Some outcome) p e = refl

by_change : (book : History) (c : Change) → StaySettled book (with_change book c)
by_change book c d settled = ap (λ (o : Option Outcome). is_some o) (settlement_push book c d) ∙ still_some (settlement_of book d) (settlement d c) settled

by_read : (book : History) (account : Id) (read : Result Act ActFault) → StaySettled book (with_read book account read)
by_read book account (Err fault) d settled = settled
by_read book account (Ok (Register text)) d settled = go (is_known book (digest_of text))
  where
    go : (known : Bool) → is_some (settlement_of (if known then book else with_change book (Registered (digest_of text) (parties_in text))) d) ≡ true
    go true = settled
    go false = by_change book (Registered (digest_of text) (parties_in text)) d settled
by_read book account (Ok (Pay house ledger to asset amount)) d settled = by_change book (Paid account to asset amount) d settled
by_read book account (Ok (Escrow deal ledger asset amount)) d settled = by_change book (Escrowed deal account asset amount) d settled
by_read book account (Ok (Transfer deal ledger turn to asset amount)) d settled = by_change book (Transferred deal account to asset amount) d settled
by_read book account (Ok (StartDeal text)) d settled = settled
by_read book account (Ok (Vote deal index choice)) d settled = settled

by_entry : (book : History) (e : Entry) → StaySettled book (with_entry book e)
by_entry book (Accepted account q message) = by_read book account (act_of Ledger message)
by_entry book (Settlement deal outcome) = by_change book (Settled deal outcome)

-- ---- how many are open behind one entry more

abbrev one_if : Bool → ℕ
one_if b = if b then 1 else 0

pushed : (later : History) (account : Id) (before entries : List Entry) (e : Entry) → open_behind later account before (entries ++ e ∷ []) ≡ open_behind later account before entries + one_if (is_new_open later (before ++ entries) (deal_by account e))
pushed later account before [] e =
    let here : one_if (is_new_open later before (deal_by account e)) ≡ one_if (is_new_open later (before ++ []) (deal_by account e)) = ap (λ (es : List Entry). one_if (is_new_open later es (deal_by account e))) (sym (append-nil before)) in
    omega (arith, here)
pushed later account before (first ∷ entries) e =
    let rest = pushed later account (before ++ first ∷ []) entries e in
    let last : one_if (is_new_open later ((before ++ first ∷ []) ++ entries) (deal_by account e)) ≡ one_if (is_new_open later (before ++ first ∷ entries) (deal_by account e)) = ap (λ (es : List Entry). one_if (is_new_open later es (deal_by account e))) (append_assoc before (first ∷ []) entries) in
    omega (arith, rest, last)

-- a deal that is open by the later book was so by the book before
fewer_new : (book later : History) (before : List Entry) (o : Option Id) → StaySettled book later → one_if (is_new_open later before o) ≤ one_if (is_new_open book before o)
fewer_new book later before None stay = omega arith
fewer_new book later before (Some d) stay = go (is_some (settlement_of book d)) (is_some (settlement_of later d)) (is_some (registration_of before d)) (stay d)
  where
    go : (ended ends known : Bool) → (ended ≡ true → ends ≡ true) → one_if (if ends then false else if known then false else true) ≤ one_if (if ended then false else if known then false else true)
    go ended true known so = omega arith
    go false false known so = omega arith
    go true false known so = absurd (let e = so refl in cc)

fewer : (book later : History) (account : Id) (before entries : List Entry) → StaySettled book later → open_behind later account before entries ≤ open_behind book account before entries
fewer book later account before [] stay = omega arith
fewer book later account before (e ∷ entries) stay =
    omega (arith, fewer_new book later before (deal_by account e) stay, fewer book later account (before ++ e ∷ []) entries stay)

module _ (opened : Opened) (entries : List Entry) (e : Entry) where
  abbrev book : History
  book = book_of opened.rows entries

  abbrev later : History
  later = book_of opened.rows (entries ++ e ∷ [])

  settled_stay : StaySettled book later
  settled_stay = subst (λ (h : History). StaySettled book h) (sym (one_more opened.rows entries e)) (by_entry book e)

  -- one more at most, and only where the entry is the first to register a deal of the account
  open_then : (account : Id) → open_deals opened.rows (entries ++ e ∷ []) account ≤ open_deals opened.rows entries account + one_if (is_new_open later entries (deal_by account e))
  open_then account = omega (arith, pushed later account [] entries e, fewer book later account [] entries settled_stay)

  registers_none : ((account : Id) → deal_by account e ≡ None) → HasFewOpen opened entries → HasFewOpen opened (entries ++ e ∷ [])
  registers_none none few account = omega (arith, few account, open_then account, ap (λ (o : Option Id). one_if (is_new_open later entries o)) (none account))

-- ---- an accepted act

first_none : (one other : Option LedgerFault) → option_or one other ≡ None → (one ≡ None) × (other ≡ None)
first_none None other is = (refl, is)
first_none (Some fault) other is = absurd cc

below_most : (held : ℕ) → deals_full held ≡ None → held < most_deals
below_most held is = grind (arith, is)

if_none : (b : Bool) (o : Option Id) → o ≡ None → (if b then o else None) ≡ None
if_none true o none = none
if_none false o none = refl

module _ (opened : Opened) (entries : List Entry) (owner : Id) (q : ℕ) (message : List ℕ) where
  abbrev entry : Entry
  entry = Accepted owner q message

  other_act : (act : Act) → act_of Ledger message ≡ Ok act → deal_of (Ok act) ≡ None → HasFewOpen opened entries → HasFewOpen opened (entries ++ entry ∷ [])
  other_act act reads none few =
      registers_none opened entries entry (λ account. if_none (same_id account owner) (deal_of (act_of Ledger message)) (ap (λ (r : Result Act ActFault). deal_of r) reads ∙ none)) few

  registration : (text : List ℕ) (answer : Result DealTold DealFault) → act_of Ledger message ≡ Ok (Register text) → register_refusal opened entries owner text answer ≡ None → HasFewOpen opened entries → HasFewOpen opened (entries ++ entry ∷ [])
  registration text answer reads none few account = elim (cases_Bool (same_id account owner)) [
    | inr other ↦
        let nothing : deal_by account entry ≡ None = ap (λ (b : Bool). if b then deal_of (act_of Ledger message) else None) other in
        omega (arith, few account, open_then opened entries entry account, ap (λ (o : Option Id). one_if (is_new_open (book_of opened.rows (entries ++ entry ∷ [])) entries o)) nothing)
    | inl own ↦ by_room (is_known (book_of opened.rows entries) (digest_of text)) refl (id_from_same account owner own) (ap (λ (b : Bool). if b then deal_of (act_of Ledger message) else None) own ∙ ap (λ (r : Result Act ActFault). deal_of r) reads)
  ]
    where
      past_text : option_or (if is_known (book_of opened.rows entries) (digest_of text) then None else deals_full (open_deals opened.rows entries owner)) (option_or (full (acts_of entries)) None) ≡ None
      past_text = (first_none (text_refusal opened.house owner answer) (option_or (if is_known (book_of opened.rows entries) (digest_of text) then None else deals_full (open_deals opened.rows entries owner)) (option_or (full (acts_of entries)) None)) none).1

      room : (if is_known (book_of opened.rows entries) (digest_of text) then None else deals_full (open_deals opened.rows entries owner)) ≡ None
      room = (first_none (if is_known (book_of opened.rows entries) (digest_of text) then None else deals_full (open_deals opened.rows entries owner)) (option_or (full (acts_of entries)) None) past_text).0

      one_at_most : (b : Bool) → one_if b ≤ 1
      one_at_most true = omega arith
      one_at_most false = omega arith

      not_new : (later : History) → is_some (registration_of entries (digest_of text)) ≡ true → is_new_open later entries (Some (digest_of text)) ≡ false
      not_new later known = go (is_some (settlement_of later (digest_of text)))
        where
          go : (ended : Bool) → (if ended then false else if is_some (registration_of entries (digest_of text)) then false else true) ≡ false
          go true = refl
          go false = ap (λ (b : Bool). if b then false else true) known

      by_room : (known : Bool) → is_known (book_of opened.rows entries) (digest_of text) ≡ known → account ≡ owner → deal_by account entry ≡ Some (digest_of text) → open_deals opened.rows (entries ++ entry ∷ []) account ≤ most_deals
      by_room true is same by =
          let later = book_of opened.rows (entries ++ entry ∷ []) in
          let old = ap (λ (b : Bool). one_if b) (ap (λ (o : Option Id). is_new_open later entries o) by ∙ not_new later (sym (known_is_registered opened.rows entries (digest_of text)) ∙ is)) in
          omega (arith, few account, open_then opened entries entry account, old)
      by_room false is same by =
          let later = book_of opened.rows (entries ++ entry ∷ []) in
          let free : deals_full (open_deals opened.rows entries owner) ≡ None = sym (ap (λ (b : Bool). if b then None else deals_full (open_deals opened.rows entries owner)) is) ∙ room in
          let below : open_deals opened.rows entries account < most_deals = subst (λ (p : Id). open_deals opened.rows entries p < most_deals) (sym same) (below_most (open_deals opened.rows entries owner) free) in
          omega (arith, below, open_then opened entries entry account, one_at_most (is_new_open later entries (deal_by account entry)))

  accepted : (act : Act) → act_of Ledger message ≡ Ok act → IsActRefusal opened entries owner act None → HasFewOpen opened entries → HasFewOpen opened (entries ++ entry ∷ [])
  accepted (Register text) reads is few = registration text is.0 reads (sym is.2) few
  accepted (Pay house ledger to asset amount) reads is few = other_act (Pay house ledger to asset amount) reads refl few
  accepted (Escrow deal ledger asset amount) reads is few = other_act (Escrow deal ledger asset amount) reads refl few
  accepted (Transfer deal ledger turn to asset amount) reads is few = other_act (Transfer deal ledger turn to asset amount) reads refl few
  accepted (StartDeal text) reads is few = other_act (StartDeal text) reads refl few
  accepted (Vote deal index choice) reads is few = other_act (Vote deal index choice) reads refl few

-- ---- a step

unchanged : (opened : Opened) (entries later : List Entry) → later ≡ entries → HasFewOpen opened entries → HasFewOpen opened later
unchanged opened entries later same few = subst (λ (es : List Entry). HasFewOpen opened es) (sym same) few

act_steps : (opened : Opened) (entries : List Entry) (account : Id) (q : ℕ) (message : List ℕ) (act : Act) (used : Option UsedKey) (reply : Result ℕ LedgerFault) (later : List Entry) → act_of Ledger message ≡ Ok act → ActSteps opened entries account q message act used reply later → HasFewOpen opened entries → HasFewOpen opened later
act_steps opened entries account q message act (Some used) reply later reads step few = unchanged opened entries later step.1 few
act_steps opened entries account q message act None reply later reads (None, is, by) few = subst (λ (es : List Entry). HasFewOpen opened es) (sym by.1) (accepted opened entries account q message act reads is few)
act_steps opened entries account q message act None reply later reads (Some fault, is, by) few = unchanged opened entries later by.1 few

message_steps : (opened : Opened) (entries : List Entry) (account : Id) (q : ℕ) (message : List ℕ) (reply : Result ℕ LedgerFault) (later : List Entry) → MessageSteps opened entries account q message (act_of Ledger message) reply later → HasFewOpen opened entries → HasFewOpen opened later
message_steps opened entries account q message reply later step few = go (act_of Ledger message) refl step
  where
    go : (read : Result Act ActFault) → act_of Ledger message ≡ read → MessageSteps opened entries account q message read reply later → HasFewOpen opened later
    go (Err fault) is step = unchanged opened entries later step.1 few
    go (Ok act) is step = act_steps opened entries account q message act (used_of entries account q) reply later is step few

few_stay_open : (opened : Opened) (entries : List Entry) (env : Envelope) (reply : Result ℕ LedgerFault) (later : List Entry) → LedgerStep opened entries env reply later → HasFewOpen opened entries → HasFewOpen opened later
few_stay_open opened entries env reply later (Unsaid fault is answered same) few = unchanged opened entries later same few
few_stay_open opened entries env reply later (Said account q says step) few = message_steps opened entries account q env.message reply later step few

pub few_open : FewStayOpen
few_open = record {
  opens = λ opened account. omega arith;
  steps = few_stay_open;
  ends = λ opened entries deal outcome few. registers_none opened entries (Settlement deal outcome) (λ account. refl) few;
}
