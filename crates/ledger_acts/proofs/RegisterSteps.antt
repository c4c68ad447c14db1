-- A registration by its text and the rows is the ledger's step.
use Rattle.std.proofs.Common.{◌≡◌, ℕ, ◌+◌, ◌<◌, ◌≤◌, ◌^◌, not, cond, Bool, true, false, if◌then◌else◌, List, [], ◌∷◌, ◌++◌, length, Option, Some, None, is_some, Result, Ok, Err, refl, sym, ap, subst, ◌∙◌, arith}
use Rattle.std.specs.Option.{option_map, option_and_then, option_or}
use Rattle.std.specs.FinMap.{get}
use Rattle.std.proofs.lemmas.List.{length-append}
use Rattle.std.proofs.lemmas.List.Sums.{sum_by-cons, sum_by-append}
use Rattle.dh_base.specs.declared.id.Id.{Id}
use Rattle.act_text.specs.declared.act.Act.TheVariants.{Register}
use Rattle.deal_core.specs.declared.deal_fault.DealFault.{DealFault}
use Rattle.deal_core.specs.Deals.{DealTold}
use Rattle.deal_core.specs.Reading.{IsTextOf, Answers}
use Rattle.escrow_book.specs.declared.change.Change.TheVariants.{Registered}
use Rattle.escrow_book.specs.History.{History, with_change, is_known}
use Rattle.escrow_book.specs.Reached.{are_parties, IsReached}
use Rattle.escrow_book.proofs.Steps.{reached_push}
use Rattle.escrow_book.proofs.Sums.{all_append}
use Rattle.keeper_core.specs.declared.change.Change.{Change}
use Rattle.keeper_core.specs.Tables.{Tables}
use Rattle.keeper_core.specs.Batches.{after_batch, after_change}
use Rattle.keeper_core.specs.Knowing.{Known}
use Rattle.keeper_core.specs.Leaving.{after_batches}
use Rattle.keeper_core.specs.Stepping.{AtMostOne, Backs, Steps}
use Rattle.keeper_core.proofs.Stepping.{steps}
use Rattle.ledger_rows.specs.declared.entry.Entry.{Entry}
use Rattle.ledger_rows.specs.declared.entry.Entry.TheVariants.{Act, Settlement}
use Rattle.ledger_rows.specs.declared.registration.Registration.{Registration}
use Rattle.ledger_rows.specs.RowChanges.{deal_change, used_change, entry_change}
use Rattle.ledger_rows.specs.RowValues.{EntryFits}
use Rattle.ledger_rows.specs.Entries.{digest_of, parties_in, registration_of, book_of}
use Rattle.ledger_rows.specs.LedgerTables.{StandsFor}
use Rattle.ledger_rows.specs.OpenDeals.{deal_by, is_new_open, open_behind, open_deals, deals_refusal, unless_registered, room_said, refused_unless, room_refusal}
use Rattle.ledger_rows.specs.RowKeys.{deal_tab}
use Rattle.ledger_rows.specs.RowReading.{deal_said}
use Rattle.ledger_rows.specs.ActChanges.{act_changes, new_registration, registration_changes}
use Rattle.ledger_rows.proofs.Cells.{change_at}
use Rattle.ledger_rows.proofs.DealRows.{registration_with, deal_says, deal_formed}
use Rattle.ledger_rows.proofs.Histories.{one_act_more}
use Rattle.ledger_rows.proofs.KnownDeals.{no_parties, known_is_registered}
use Rattle.ledger_rows.proofs.OpenCounted.{deals_counted}
use Rattle.ledger_rows.proofs.RegistrationsStand.{registration_stands}
use Rattle.ledger_acts.specs.declared.ledger_fault.LedgerFault.{LedgerFault}
use Rattle.ledger_acts.specs.declared.ledger_fault.LedgerFault.TheVariants.{Store}
use Rattle.ledger_acts.specs.LedgerFaults.{of_ledger_fault}
use Rattle.ledger_acts.specs.LedgerState.{form_tab, form_key, RegistersDeal, IsState}
use Rattle.ledger_acts.specs.LedgerStep.{Opened, first_of, most_acts, is_act, acts_of, full, deals_full, text_refusal, register_refusal}
use Rattle.ledger_acts.specs.ByRows.{ByRows, RowAct, batches_of, act_batches}
use Rattle.ledger_acts.specs.Registering.{told_open, room_fault, registering, registration_refusal, IsRegistrationOf}
use Rattle.ledger_acts.proofs.Answering.{never_done}
use Rattle.ledger_acts.proofs.DealParties.{text_parties}

-- ---- counts

one_if_le : (b c : Bool) → (b ≡ true → c ≡ true) → cond b 1 0 ≤ cond c 1 0
one_if_le true true h = omega arith
one_if_le true false h = absurd (let e = h refl in cc)
one_if_le false c h = omega arith

open_few : (later : History) (account : Id) (before entries : List Entry) → open_behind later account before entries ≤ acts_of entries
open_few later account before [] = omega arith
open_few later account before (e ∷ entries) =
    omega (arith, sum_by-cons (λ (x : Entry). cond (is_act x) 1 0) e entries, one_if_le (is_new_open later before (deal_by account e)) (is_act e) (an_act e), open_few later account (before ++ e ∷ []) entries)
  where
    an_act : (e : Entry) → is_new_open later before (deal_by account e) ≡ true → is_act e ≡ true
    an_act (Act owner q message) is = refl
    an_act (Settlement deal outcome) is = absurd cc

all_told : (held : ℕ) → held < 2 ^ 32 → told_open held ≡ held
all_told held small = omega arith

acts_more : (entries : List Entry) (account : Id) (q : ℕ) (message : List ℕ) → acts_of (entries ++ Act account q message ∷ []) ≡ acts_of entries + 1
acts_more entries account q message = sum_by-append (λ (e : Entry). cond (is_act e) 1 0) entries (Act account q message ∷ [])

not_full : (acts : ℕ) → full acts ≡ None → acts < most_acts
not_full acts e = grind (arith, e)

none_of : {T : Type 0} (one other : Option T) → option_or one other ≡ None → (one ≡ None) × (other ≡ None)
none_of None other e = (refl, e)
none_of (Some x) other e = absurd cc

or_none : {T : Type 0} (o : Option T) → option_or o None ≡ o
or_none None = refl
or_none (Some x) = refl

-- ---- a deal whose text is read

text_is_good : (house account : Id) (text : List ℕ) (answer : Result DealTold DealFault) → Answers text answer → text_refusal house account answer ≡ None → are_parties (parties_in text) ≡ true
text_is_good house account text (Err fault) reads none = absurd cc
text_is_good house account text (Ok deal) reads none = text_parties deal text reads

no_refusal_unless : (o : Option (Option Registration)) → refused_unless None o ≡ None
no_refusal_unless None = refl
no_refusal_unless (Some None) = refl
no_refusal_unless (Some (Some deal)) = refl

-- ---- what the rows say over tables that stand for a history

-- what stands in the row of the deal, if it has one
abbrev standing_of : History → List Entry → Id → Option Registration
standing_of book entries deal = option_map (registration_with book deal) (registration_of entries deal)

module _ (opened : Opened) (tables : Tables) (entries : List Entry) (account deal : Id) (is : IsState opened tables entries) where
  abbrev book : History
  book = book_of opened.rows entries

  abbrev standing : Option Registration
  standing = standing_of book entries deal

  rows_formed : deals_refusal tables ≡ None
  rows_formed = ap (option_map _) (deals_counted tables opened.rows entries account is.stands is.fits).0

  room_formed : room_refusal deal tables ≡ None
  room_formed = (λ i. option_or (deal_formed tables opened.rows entries deal is.stands is.fits i) (refused_unless (rows_formed i) (deal_said deal tables))) ∙ no_refusal_unless (deal_said deal tables)

  room_says : room_said account deal tables ≡ Some (unless_registered (open_deals opened.rows entries account) standing)
  room_says = (λ i. option_map (unless_registered ((deals_counted tables opened.rows entries account is.stands is.fits).1 i)) (deal_says tables opened.rows entries deal is.stands is.fits i))

  few_open : open_deals opened.rows entries account < 2 ^ 32
  few_open = omega (arith, open_few book account [] entries, is.few)

  known_there : is_known book deal ≡ is_some standing
  known_there = known_is_registered opened.rows entries deal ∙ mapped (registration_of entries deal)
    where
      mapped : (o : Option (Id × List ℕ)) → is_some o ≡ is_some (option_map (registration_with book deal) o)
      mapped None = refl
      mapped (Some by) = refl

  -- the refusal by the room, as the history has it
  room_is : room_fault (acts_of entries) (unless_registered (open_deals opened.rows entries account) standing)
      ≡ first_of ((if is_known book deal then None else deals_full (open_deals opened.rows entries account)) ∷ full (acts_of entries) ∷ [])
  room_is = by_standing standing ∙ sym (ap (λ (b : Bool). first_of ((if b then None else deals_full (open_deals opened.rows entries account)) ∷ full (acts_of entries) ∷ [])) known_there)
    where
      by_standing : (o : Option Registration) → room_fault (acts_of entries) (unless_registered (open_deals opened.rows entries account) o) ≡ first_of ((if is_some o then None else deals_full (open_deals opened.rows entries account)) ∷ full (acts_of entries) ∷ [])
      by_standing None = ap (λ (n : ℕ). first_of (deals_full n ∷ full (acts_of entries) ∷ [])) (all_told (open_deals opened.rows entries account) few_open)
      by_standing (Some found) = sym (or_none (full (acts_of entries)))

-- ---- the step

-- by what the text reads as and by the rows, and by the history
pub register_agrees : (opened : Opened) (entries : List Entry) (house : Id) (text : List ℕ) (acts number : ℕ) (account : Id) (q : ℕ) (message : List ℕ) → house ≡ opened.house → acts ≡ acts_of entries → (answer : Result DealTold DealFault) →
    (tables : Tables) → IsState opened tables entries → registration_refusal (text_refusal house account answer) (registering account (digest_of text) text acts (act_changes number account q message)) tables ≡ register_refusal opened entries account text answer
register_agrees opened entries house text acts number account q message is_house is_acts answer tables is =
    (λ i. option_or (text_refusal (is_house i) account answer)
    (option_or (option_map Store (room_formed opened tables entries account (digest_of text) is i)) (option_and_then (room_fault (is_acts i)) (room_says opened tables entries account (digest_of text) is i))))
    ∙ ap (λ (o : Option LedgerFault). option_or (text_refusal opened.house account answer) o) (room_is opened tables entries account (digest_of text) is)

module _ (opened : Opened) (entries : List Entry) (house : Id) (text : List ℕ) (acts number : ℕ) (account : Id) (q : ℕ) (message : List ℕ)
    (is_house : house ≡ opened.house) (of : IsRegistrationOf text entries account q message) (is_acts : acts ≡ acts_of entries) (is_number : number ≡ length entries + 1)
    (answer : Result DealTold DealFault) (reads : Answers text answer) where
  abbrev deal : Id
  deal = digest_of text

  abbrev h : History
  h = book_of opened.rows entries

  abbrev act : RowAct (Option ℕ)
  act = registering account deal text acts (act_changes number account q message)

  abbrev refusal : Tables → Option LedgerFault
  refusal = registration_refusal (text_refusal house account answer) act

  abbrev entry : Entry
  entry = Act account q message

  abbrev next : List Entry
  next = entries ++ entry ∷ []

  abbrev room : Option ℕ
  room = unless_registered (open_deals opened.rows entries account) (standing_of h entries deal)

  agrees : (tables : Tables) → IsState opened tables entries → refusal tables ≡ register_refusal opened entries account text answer
  agrees tables is = register_agrees opened entries house text acts number account q message is_house is_acts answer tables is

  few : (tables : Tables) → AtMostOne (act_batches act tables)
  few tables = go (room_said account deal tables)
    where
      go : (o : Option (Option ℕ)) → AtMostOne (batches_of (option_map act.changes o))
      go None = tt
      go (Some found) = tt

  module _ (tables : Tables) (is : IsState opened tables entries) (none : refusal tables ≡ None) where
    abbrev room_refused : Option LedgerFault
    room_refused = if is_known h deal then None else deals_full (open_deals opened.rows entries account)

    parts : (text_refusal opened.house account answer ≡ None) × (option_or room_refused (option_or (full (acts_of entries)) None) ≡ None)
    parts = none_of (text_refusal opened.house account answer) (option_or room_refused (option_or (full (acts_of entries)) None)) (sym (agrees tables is) ∙ none)

    is_full : full (acts_of entries) ≡ None
    is_full = (none_of (full (acts_of entries)) None (none_of room_refused (option_or (full (acts_of entries)) None) parts.1).1).0

    good : are_parties (parties_in text) ≡ true
    good = text_is_good opened.house account text answer reads parts.0

    -- what the entry registers is a deal's text
    registers_deal : RegistersDeal entry
    registers_deal other read = is_deal answer reads parts.0
      where
        same_text : text ≡ other
        same_text = (let two : Ok (Register text) ≡ Ok (Register other) = sym of.reads ∙ read in cc)

        is_deal : (answer : Result DealTold DealFault) → Answers text answer → text_refusal opened.house account answer ≡ None → (told : DealTold) × IsTextOf told other
        is_deal (Ok told) kept none = (told, subst (λ (t : List ℕ). IsTextOf told t) same_text kept)
        is_deal (Err fault) kept none = absurd cc

    few_acts : acts_of entries < most_acts
    few_acts = not_full (acts_of entries) is_full

    few_entries : length entries < 2 ^ 63
    few_entries = omega (arith, is.acted, few_acts)

    -- what is committed are the changes by the whole book
    abbrev by_book_changes : List Change
    by_book_changes = registration_changes (is_known h deal) deal (new_registration account text) (act_changes (length entries + 1) account q message)

    known_room : not (is_some room) ≡ is_known h deal
    known_room = no_room (standing_of h entries deal) ∙ sym (known_there opened tables entries account deal is)
      where
        no_room : (o : Option Registration) → not (is_some (unless_registered (open_deals opened.rows entries account) o)) ≡ is_some o
        no_room None = refl
        no_room (Some found) = refl

    same_batches : act_batches act tables ≡ by_book_changes ∷ []
    same_batches =
        ap (λ (o : Option (Option ℕ)). batches_of (option_map act.changes o)) (room_says opened tables entries account deal is)
        ∙ (λ i. registration_changes (known_room i) deal (new_registration account text) (act_changes (is_number i) account q message) ∷ [])

    then_stands : StandsFor (after_batch by_book_changes tables) opened.rows next
    then_stands = registration_stands tables opened.rows entries account q message text is.stands is.reached of.new of.reads good few_entries

    then_reached : IsReached (book_of opened.rows next)
    then_reached = subst IsReached (sym (one_act_more opened.rows entries account q message (Register text) of.reads)) (go (is_known h deal) refl)
      where
        go : (known : Bool) → is_known h deal ≡ known → IsReached (if known then h else with_change h (Registered deal (parties_in text)))
        go true e = is.reached
        go false e = reached_push h (Registered deal (parties_in text)) is.reached (no_parties h deal e, good)

    form_stays : get (after_batch by_book_changes tables) (form_tab, form_key) ≡ get tables (form_tab, form_key)
    form_stays = go (is_known h deal)
      where
        act_spares : (t : Tables) → get (after_batch (act_changes (length entries + 1) account q message) t) (form_tab, form_key) ≡ get t (form_tab, form_key)
        act_spares t =
            let used = used_change account q (record { at = length entries + 1; message = digest_of message }) in
            change_at (entry_change (length entries + 1) entry) (after_change used t) (form_tab, form_key) ∙ change_at used t (form_tab, form_key)

        go : (known : Bool) → get (after_batch (registration_changes known deal (new_registration account text) (act_changes (length entries + 1) account q message)) tables) (form_tab, form_key) ≡ get tables (form_tab, form_key)
        go true = act_spares tables
        go false = act_spares (after_change (deal_change deal (new_registration account text)) tables) ∙ change_at (deal_change deal (new_registration account text)) tables (form_tab, form_key)

    pub onward : IsState opened (after_batches (act_batches act tables) tables) next
    onward =
        let more = acts_more entries account q message in
        subst (λ (batches : List (List Change)). IsState opened (after_batches batches tables) next) (sym same_batches) (record {
          reached = then_reached;
          few = omega (arith, more, few_acts);
          acted = omega (arith, more, is.acted, length-append entries (entry ∷ []));
          fits = all_append EntryFits entries (entry ∷ []) is.fits ((of.new.wide, of.new.small), tt);
          deals = all_append RegistersDeal entries (entry ∷ []) is.deals (registers_deal, tt);
          form = form_stays ∙ is.form;
          stands = then_stands;
        })

  pub registers : (result : Result (Unit {0}) LedgerFault) (before after : Known) → ByRows 2 (Some deal_tab) refusal (act_batches act) (λ tables done. Unit {0}) result before after → Backs (IsState opened) before.tables entries →
      Steps (IsState opened) of_ledger_fault (register_refusal opened entries account text answer) (λ done. Unit {0}) entries next result before after
  registers result before after by stands =
      steps (IsState opened) of_ledger_fault refusal (act_batches act) (λ done. Unit {0}) (register_refusal opened entries account text answer) entries next
      few agrees onward result before after never_done by.leaves by.reply stands
