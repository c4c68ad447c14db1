-- A movement by the rows is that of the history that the tables stand for.
use Rattle.std.proofs.Common.{◌≡◌, ℕ, ◌+◌, ◌<◌, ◌^◌, ◌==◌, Bool, true, false, cond, if◌then◌else◌, List, [], ◌∷◌, ◌++◌, length, Option, Some, None, IsTrue, Ok, refl, sym, ap, subst, ◌∙◌, arith}
use Rattle.std.specs.List.{AllByRecursion}
use Rattle.std.specs.Option.{option_or, option_map, option_and_then}
use Rattle.std.specs.FinMap.{get}
use Rattle.std.proofs.lemmas.Bool.{eqb-true}
use Rattle.std.proofs.lemmas.List.{length-append}
use Rattle.std.proofs.lemmas.List.Sums.{sum_by-append}
use Rattle.dh_base.specs.declared.id.Id.{Id}
use Rattle.dh_base.specs.Names.{is_name}
use Rattle.act_text.specs.declared.act.Act.{Act as Asked}
use Rattle.act_text.specs.declared.act.Act.TheVariants as act
use Rattle.act_text.specs.declared.office.Office.TheVariants.{Ledger}
use Rattle.act_text.specs.ActReading.{act_of}
use Rattle.act_text.specs.ActTexts.{ActFits}
use Rattle.deal_core.specs.Deals.{DealTold}
use Rattle.deal_core.specs.Drafts.{parties_in}
use Rattle.deal_core.specs.Reading.{IsTextOf}
use Rattle.dh_base.specs.declared.outcome.Outcome.{Outcome}
use Rattle.escrow_book.specs.declared.fault.BookFault.{BookFault}
use Rattle.escrow_book.specs.declared.fault.BookFault.TheVariants as book
use Rattle.escrow_book.specs.declared.row.BookRow.{BookRow}
use Rattle.escrow_book.specs.Base.{greatest_turn}
use Rattle.escrow_book.specs.History.{History, with_change, parties_of, settlement_of, moves_of, free_of}
use Rattle.escrow_book.specs.Reached.{IsReached, IsAccepted, are_parties}
use Rattle.escrow_book.specs.Refused.{unknown_deal, not_a_party, deal_settled, wrong_turn, transfer_refusal}
use Rattle.escrow_book.proofs.Lookups.{both_none}
use Rattle.escrow_book.proofs.Standing.{good_parties}
use Rattle.escrow_book.proofs.Steps.{reached_push}
use Rattle.keeper_core.specs.declared.change.Change.{Change}
use Rattle.keeper_core.specs.Tables.{Cell, Tables}
use Rattle.keeper_core.specs.Batches.{after_batch, after_change}
use Rattle.keeper_core.specs.Leaving.{after_batches}
use Rattle.ledger_rows.specs.declared.entry.Entry.{Entry}
use Rattle.ledger_rows.specs.declared.entry.Entry.TheVariants.{Act}
use Rattle.ledger_rows.specs.declared.registration.Registration.{Registration}
use Rattle.ledger_rows.specs.RowChanges.{free_change, hold_change, moves_change, used_change, entry_change}
use Rattle.ledger_rows.specs.RowReading.{pair_of}
use Rattle.ledger_rows.specs.RowValues.{EntryFits}
use Rattle.ledger_rows.specs.Entries.{digest_of, registration_of, used_of, book_of}
use Rattle.ledger_rows.specs.LedgerTables.{hold_of, StandsFor}
use Rattle.ledger_rows.specs.ActChanges.{IsNew, act_changes}
use Rattle.ledger_rows.proofs.Cells.{change_at, free_at, hold_at, moves_at}
use Rattle.ledger_rows.proofs.Histories.{one_act_more}
use Rattle.ledger_rows.proofs.PaymentsStand.{payment_stands}
use Rattle.ledger_rows.proofs.EscrowsStand.{escrow_stands}
use Rattle.ledger_rows.proofs.TransfersStand.{transfer_stands}
use Rattle.ledger_acts.specs.declared.ledger_fault.LedgerFault.{LedgerFault}
use Rattle.ledger_acts.specs.declared.ledger_fault.LedgerFault.TheVariants.{Store}
use Rattle.ledger_acts.specs.declared.movement.Movement.{Movement}
use Rattle.ledger_acts.specs.declared.movement.Movement.TheVariants.{Payment, Escrow, Transfer}
use Rattle.ledger_acts.specs.LedgerFaults.{ledger_fault_of}
use Rattle.ledger_acts.specs.LedgerStep.{Opened, first_of, by_book, most_acts, is_act, acts_of, full}
use Rattle.ledger_acts.specs.LedgerState.{form_tab, form_key, RegistersDeal, IsState}
use Rattle.ledger_acts.specs.ByRows.{act_refusal, batches_of, act_batches}
use Rattle.ledger_acts.specs.Movements.{change_of, book_refusal, changes_of, payment_rows, escrow_rows, transfer_rows, movement_said, movement_form, part_refusal, moved_part, movement_refusal, moving, movement_of}
use Rattle.ledger_acts.proofs.Agreeing.{Agrees}
use Rattle.ledger_acts.proofs.PaymentPart.{payment_agrees}
use Rattle.ledger_acts.proofs.EscrowPart.{escrow_agrees}
use Rattle.ledger_acts.proofs.TransferPart.{transfer_agrees}
use Rattle.ledger_acts.proofs.KnownDeals.{parties_by_entries}
use Rattle.ledger_acts.proofs.StateRows.{free_says, hold_small, hold_says, moves_few, moves_say, kept_as, deal_says}

-- the ids of the movement are of 32 bytes, and the asset has a name
abbrev pub MovementFits : Movement → Type 0
MovementFits (Payment from to asset amount) = (length from.0 ≡ 32) × (length to.0 ≡ 32) × IsTrue (is_name asset)
MovementFits (Escrow deal party asset amount) = (length deal.0 ≡ 32) × (length party.0 ≡ 32) × IsTrue (is_name asset)
MovementFits (Transfer deal from turn to asset amount) = (length deal.0 ≡ 32) × (length from.0 ≡ 32) × (length to.0 ≡ 32) × IsTrue (is_name asset)

-- ---- the rows that are read

pub record Touches (movement : Movement) (tables : Tables) (whole : History) : Type 0 where
  pub rows : List BookRow
  pub said : movement_said movement tables ≡ Some rows
  pub form : movement_form movement tables ≡ None
  pub agrees : Agrees movement rows whole

module _ (opened : Opened) (tables : Tables) (entries : List Entry) (is : IsState opened tables entries) where
  abbrev book_now : History
  book_now = book_of opened.rows entries

  abbrev found : Id → Option Registration
  found deal = option_map (kept_as opened tables entries is deal) (registration_of entries deal)

  found_parties : (deal : Id) → parties_of book_now deal ≡ option_map (λ (r : Registration). parties_in r.text) (found deal)
  found_parties deal = parties_by_entries opened.rows entries deal ∙ go (registration_of entries deal)
    where
      go : (o : Option (Id × List ℕ)) → option_map (λ (by : Id × List ℕ). parties_in by.1) o ≡ option_map (λ (r : Registration). parties_in r.text) (option_map (kept_as opened tables entries is deal) o)
      go None = refl
      go (Some by) = refl

  found_settled : (deal : Id) (r : Registration) → found deal ≡ Some r → settlement_of book_now deal ≡ r.settled
  found_settled deal r e = go (registration_of entries deal) e
    where
      go : (o : Option (Id × List ℕ)) → option_map (kept_as opened tables entries is deal) o ≡ Some r → settlement_of book_now deal ≡ r.settled
      go None e = absurd cc
      go (Some by) e = ap settled_or (let pair : Some (kept_as opened tables entries is deal by) ≡ Some r = e in pair)
        where
          settled_or : Option Registration → Option Outcome
          settled_or None = None
          settled_or (Some kept) = kept.settled

  found_good : (deal : Id) (parties : List Id) → parties_of book_now deal ≡ Some parties → IsTrue (are_parties parties)
  found_good deal parties known = good_parties book_now deal parties is.reached known

  pub touches : (movement : Movement) → MovementFits movement → Touches movement tables book_now
  touches (Payment from to asset amount) fits =
      let sender = free_says opened tables entries is from asset fits.0 fits.2 in
      let receiver = free_says opened tables entries is to asset fits.1 fits.2 in
      record {
        rows = payment_rows from to asset (free_of book_now from asset, free_of book_now to asset);
        said = (λ i. option_map (payment_rows from to asset) (pair_of (sender.0 i) (receiver.0 i)));
        form = (λ i. option_or (sender.1 i) (receiver.1 i));
        agrees = payment_agrees book_now from to asset amount (free_of book_now from asset) (free_of book_now to asset) is.reached refl refl;
      }
  touches (Escrow deal party asset amount) fits =
      let kept = deal_says opened tables entries is deal in
      let free = free_says opened tables entries is party asset fits.1 fits.2 in
      let held = hold_says opened tables entries is deal party asset fits.0 fits.1 fits.2 in
      record {
        rows = escrow_rows deal party asset (found deal, (free_of book_now party asset, hold_of book_now deal party asset));
        said = (λ i. option_map (escrow_rows deal party asset) (pair_of (kept.0 i) (pair_of (free.0 i) (held.0 i))));
        form = (λ i. option_or (kept.1 i) (option_or (free.1 i) (held.1 i)));
        agrees = escrow_agrees book_now deal party asset amount (free_of book_now party asset) (hold_of book_now deal party asset) is.reached refl refl (hold_small opened tables entries is deal party asset)
            (found deal) (found_parties deal) (found_settled deal) (found_good deal);
      }
  touches (Transfer deal from turn to asset amount) fits =
      let kept = deal_says opened tables entries is deal in
      let moves = moves_say opened tables entries is deal from fits.0 in
      let sender = hold_says opened tables entries is deal from asset fits.0 fits.1 fits.3 in
      let receiver = hold_says opened tables entries is deal to asset fits.0 fits.2 fits.3 in
      record {
        rows = transfer_rows deal from to asset (found deal, (moves_of book_now deal from, (hold_of book_now deal from asset, hold_of book_now deal to asset)));
        said = (λ i. option_map (transfer_rows deal from to asset) (pair_of (kept.0 i) (pair_of (moves.0 i) (pair_of (sender.0 i) (receiver.0 i)))));
        form = (λ i. option_or (kept.1 i) (option_or (moves.1 i) (option_or (sender.1 i) (receiver.1 i))));
        agrees = transfer_agrees book_now deal from turn to asset amount (moves_of book_now deal from) (hold_of book_now deal from asset) (hold_of book_now deal to asset) is.reached refl (moves_few opened tables entries is deal from) refl refl
            (hold_small opened tables entries is deal from asset) (hold_small opened tables entries is deal to asset) (found deal) (found_parties deal) (found_settled deal) (found_good deal);
      }

-- ---- the refusal

-- the refusal behind that of what the act names
abbrev pub moved_step : Opened → List Entry → Movement → Option LedgerFault
moved_step opened entries movement = first_of (by_book (book_refusal (book_of opened.rows entries) movement) ∷ full (acts_of entries) ∷ [])

flat : (one last : Option LedgerFault) → option_or (option_or one None) (option_or last None) ≡ option_or one (option_or last None)
flat None last = refl
flat (Some fault) last = refl

none_mapped : {A B : Type 0} (f : A → B) (o : Option A) → option_map f o ≡ None → o ≡ None
none_mapped f None e = refl
none_mapped f (Some x) e = absurd cc

not_full : (acts : ℕ) → full acts ≡ None → acts < most_acts
not_full acts e = grind (arith, e)

pub some_is : {A : Type 0} (x y : A) → Some x ≡ Some y → x ≡ y
some_is {A} x y e = ap from_some e
  where
    from_some : Option A → A
    from_some None = x
    from_some (Some z) = z

-- ---- an accepted movement

turn_is : (given kept : ℕ) (fault : BookFault) → (if given == kept then None else Some fault) ≡ None → given ≡ kept
turn_is given kept fault e = eqb-true given kept (go (given == kept) e)
  where
    go : (b : Bool) → (if b then None else Some fault) ≡ None → b ≡ true
    go true e = refl
    go false e = absurd cc

pub accepted_by : (whole : History) (movement : Movement) → ((deal party : Id) → moves_of whole deal party < greatest_turn) → book_refusal whole movement ≡ None → IsAccepted whole (change_of movement)
accepted_by whole (Payment from to asset amount) few none = none
accepted_by whole (Escrow deal party asset amount) few none = none
accepted_by whole (Transfer deal from turn to asset amount) few none =
    let one = both_none (unknown_deal whole deal) _ none in
    let two = both_none (not_a_party whole deal from) _ one.1 in
    let three = both_none (not_a_party whole deal to) _ two.1 in
    let four = both_none (deal_settled whole deal) _ three.1 in
    let five = both_none (wrong_turn whole deal from turn) _ four.1 in
    let same : turn ≡ moves_of whole deal from = turn_is turn (moves_of whole deal from) (book.WrongTurn (moves_of whole deal from)) five.0 in
    (subst (λ (n : ℕ). transfer_refusal whole deal from n to asset amount ≡ None) same none, few deal from)

-- ---- the cell that names the ledger stays

pub form_stays : (whole : History) (movement : Movement) (number : ℕ) (account : Id) (q : ℕ) (message : List ℕ) (tables : Tables) →
    get (after_batch (changes_of whole movement (act_changes number account q message)) tables) (form_tab, form_key) ≡ get tables (form_tab, form_key)
form_stays whole (Payment from to asset amount) number account q message tables =
    let cell : Cell = (form_tab, form_key) in
    let one = after_change (free_change from asset (free_of whole from asset)) tables in
    let two = after_change (free_change to asset (free_of whole to asset)) one in
    let used = used_change account q (record { at = number; message = digest_of message }) in
    change_at (entry_change number (Act account q message)) (after_change used two) cell ∙ change_at used two cell
    ∙ free_at to asset (free_of whole to asset) one cell ∙ free_at from asset (free_of whole from asset) tables cell
form_stays whole (Escrow deal party asset amount) number account q message tables =
    let cell : Cell = (form_tab, form_key) in
    let one = after_change (free_change party asset (free_of whole party asset)) tables in
    let two = after_change (hold_change deal party asset (hold_of whole deal party asset)) one in
    let used = used_change account q (record { at = number; message = digest_of message }) in
    change_at (entry_change number (Act account q message)) (after_change used two) cell ∙ change_at used two cell
    ∙ hold_at deal party asset (hold_of whole deal party asset) one cell ∙ free_at party asset (free_of whole party asset) tables cell
form_stays whole (Transfer deal from turn to asset amount) number account q message tables =
    let cell : Cell = (form_tab, form_key) in
    let one = after_change (moves_change deal from (moves_of whole deal from)) tables in
    let two = after_change (hold_change deal from asset (hold_of whole deal from asset)) one in
    let three = after_change (hold_change deal to asset (hold_of whole deal to asset)) two in
    let used = used_change account q (record { at = number; message = digest_of message }) in
    change_at (entry_change number (Act account q message)) (after_change used three) cell ∙ change_at used three cell
    ∙ hold_at deal to asset (hold_of whole deal to asset) two cell ∙ hold_at deal from asset (hold_of whole deal from asset) one cell ∙ moves_at deal from (moves_of whole deal from) tables cell

-- ---- one entry more

pub all_more : (P : Entry → Type 0) (entries : List Entry) (e : Entry) → AllByRecursion P entries → P e → AllByRecursion P (entries ++ e ∷ [])
all_more P [] e all one = (one, tt)
all_more P (first ∷ entries) e all one = (all.0, all_more P entries e all.1 one)

pub acts_more : (entries : List Entry) (account : Id) (q : ℕ) (message : List ℕ) → acts_of (entries ++ Act account q message ∷ []) ≡ acts_of entries + 1
acts_more entries account q message = sum_by-append (λ (e : Entry). cond (is_act e) 1 0) entries (Act account q message ∷ [])

-- ---- the step

module _ (opened : Opened) (entries : List Entry) (account : Id) (q : ℕ) (message : List ℕ) (number acts : ℕ) (wide : length account.0 ≡ 32) (small : q < 2 ^ 32) (is_acts : acts ≡ acts_of entries) (is_number : number ≡ length entries + 1) where
  abbrev whole : History
  whole = book_of opened.rows entries

  abbrev act_now : List Change
  act_now = act_changes number account q message

  -- what the act asks for
  pub record AsksFor (movement : Movement) (asked : Asked) : Type 0 where
    pub reads : act_of Ledger message ≡ Ok asked
    pub fits : ActFits asked
    pub of : movement_of account asked ≡ Some movement

  pub movement_fits : (asked : Asked) (movement : Movement) → movement_of account asked ≡ Some movement → ActFits asked → MovementFits movement
  movement_fits (act.Pay house ledger to asset amount) movement of fits = subst MovementFits (some_is _ _ of) (wide, fits.2, fits.3)
  movement_fits (act.Escrow deal ledger asset amount) movement of fits = subst MovementFits (some_is _ _ of) (fits.0, wide, fits.2)
  movement_fits (act.Transfer deal ledger turn to asset amount) movement of fits = subst MovementFits (some_is _ _ of) (fits.0, wide, fits.3, fits.4)
  movement_fits (act.Register text) movement of fits = absurd cc
  movement_fits (act.StartDeal text) movement of fits = absurd cc
  movement_fits (act.Vote deal index choice) movement of fits = absurd cc

  module _ (movement : Movement) (fits : MovementFits movement) (tables : Tables) (is : IsState opened tables entries) where
    abbrev touched : Touches movement tables whole
    touched = touches opened tables entries is movement fits

    pub refusal_is : act_refusal (moving movement acts act_now) tables ≡ moved_step opened entries movement
    refusal_is =
        let t = touches opened tables entries is movement fits in
        (λ i. option_or (option_map Store (t.form i)) (option_and_then (movement_refusal movement (is_acts i)) (t.said i)))
        ∙ (λ i. first_of (first_of (option_map (part_refusal t.rows) (t.agrees.fits i) ∷ by_book (t.agrees.same i) ∷ []) ∷ full (acts_of entries) ∷ []))
        ∙ flat (by_book (book_refusal whole movement)) (full (acts_of entries))

    -- what is committed are the changes of the movement by the whole book
    batches_are : IsAccepted whole (change_of movement) → act_batches (moving movement acts act_now) tables ≡ changes_of (with_change whole (change_of movement)) movement (act_changes (length entries + 1) account q message) ∷ []
    batches_are accepted =
        let t = touches opened tables entries is movement fits in
        (λ i. batches_of (option_map (λ (rows : List BookRow). changes_of (moved_part movement rows) movement act_now) (t.said i)))
        ∙ (λ i. t.agrees.changes accepted act_now i ∷ [])
        ∙ (λ i. changes_of (with_change whole (change_of movement)) movement (act_changes (is_number i) account q message) ∷ [])

  abbrev Then : Tables → Movement → Type 0
  Then tables m = book_refusal whole m ≡ None → IsAccepted whole (change_of m) →
      (book_of opened.rows (entries ++ Act account q message ∷ []) ≡ with_change whole (change_of m))
      × StandsFor (after_batch (changes_of (with_change whole (change_of m)) m (act_changes (length entries + 1) account q message)) tables) opened.rows (entries ++ Act account q message ∷ [])

  stands_then : (asked : Asked) (movement : Movement) → AsksFor movement asked → (tables : Tables) → IsState opened tables entries → used_of entries account q ≡ None → length entries < 2 ^ 63 →
      book_refusal whole movement ≡ None → IsAccepted whole (change_of movement) →
      (book_of opened.rows (entries ++ Act account q message ∷ []) ≡ with_change whole (change_of movement))
      × StandsFor (after_batch (changes_of (with_change whole (change_of movement)) movement (act_changes (length entries + 1) account q message)) tables) opened.rows (entries ++ Act account q message ∷ [])
  stands_then asked movement asks tables is unused few none accepted = go asked asks.reads asks.fits asks.of
    where
      new : IsNew entries account q
      new = record { wide = wide; small = small; unused = unused }

      go : (a : Asked) → act_of Ledger message ≡ Ok a → ActFits a → movement_of account a ≡ Some movement →
          (book_of opened.rows (entries ++ Act account q message ∷ []) ≡ with_change whole (change_of movement))
          × StandsFor (after_batch (changes_of (with_change whole (change_of movement)) movement (act_changes (length entries + 1) account q message)) tables) opened.rows (entries ++ Act account q message ∷ [])
      go (act.Pay house ledger to asset amount) reads fits of =
          subst (Then tables) (some_is _ _ of) (λ n a. (
            one_act_more opened.rows entries account q message (act.Pay house ledger to asset amount) reads,
            payment_stands tables opened.rows entries account q message house ledger to asset amount is.stands is.reached new reads fits.2 fits.3 few n,
          )) none accepted
      go (act.Escrow deal ledger asset amount) reads fits of =
          subst (Then tables) (some_is _ _ of) (λ n a. (
            one_act_more opened.rows entries account q message (act.Escrow deal ledger asset amount) reads,
            escrow_stands tables opened.rows entries account q message deal ledger asset amount is.stands is.reached new reads fits.0 fits.2 few n,
          )) none accepted
      go (act.Transfer deal ledger turn to asset amount) reads fits of =
          subst (Then tables) (some_is _ _ of) (λ n a. (
            one_act_more opened.rows entries account q message (act.Transfer deal ledger turn to asset amount) reads,
            transfer_stands tables opened.rows entries account q message deal ledger turn to asset amount is.stands is.reached new reads fits.0 fits.3 fits.4 few a,
          )) none accepted
      go (act.Register text) reads fits of = absurd cc
      go (act.StartDeal text) reads fits of = absurd cc
      go (act.Vote deal index choice) reads fits of = absurd cc

  no_registration : (asked : Asked) (movement : Movement) → AsksFor movement asked → RegistersDeal (Act account q message)
  no_registration asked movement asks text reads = go asked asks.reads asks.of
    where
      go : (a : Asked) → act_of Ledger message ≡ Ok a → movement_of account a ≡ Some movement → (deal : DealTold) × IsTextOf deal text
      go (act.Register other) is of = absurd cc
      go (act.Pay house ledger to asset amount) is of = absurd (let two : Ok (act.Pay house ledger to asset amount) ≡ Ok (act.Register text) = sym is ∙ reads in cc)
      go (act.Escrow deal ledger asset amount) is of = absurd (let two : Ok (act.Escrow deal ledger asset amount) ≡ Ok (act.Register text) = sym is ∙ reads in cc)
      go (act.Transfer deal ledger turn to asset amount) is of = absurd (let two : Ok (act.Transfer deal ledger turn to asset amount) ≡ Ok (act.Register text) = sym is ∙ reads in cc)
      go (act.StartDeal other) is of = absurd cc
      go (act.Vote deal index choice) is of = absurd cc

  pub onward : (asked : Asked) (movement : Movement) → AsksFor movement asked → used_of entries account q ≡ None → (tables : Tables) → IsState opened tables entries → act_refusal (moving movement acts act_now) tables ≡ None →
      IsState opened (after_batches (act_batches (moving movement acts act_now) tables) tables) (entries ++ Act account q message ∷ [])
  onward asked movement asks unused tables is none =
      let fits = movement_fits asked movement asks.of asks.fits in
      let both = both_none (by_book (book_refusal whole movement)) (option_or (full (acts_of entries)) None) (sym (refusal_is movement fits tables is) ∙ none) in
      let no_fault : book_refusal whole movement ≡ None = none_mapped ledger_fault_of (book_refusal whole movement) both.0 in
      let few : acts_of entries < most_acts = not_full (acts_of entries) (both_none (full (acts_of entries)) None both.1).0 in
      let accepted = accepted_by whole movement (moves_few opened tables entries is) no_fault in
      let more = acts_more entries account q message in
      let few_entries : length entries < 2 ^ 63 = omega (arith, is.acted, few) in
      let stand = stands_then asked movement asks tables is unused few_entries no_fault accepted in
      subst (λ (batches : List (List Change)). IsState opened (after_batches batches tables) (entries ++ Act account q message ∷ [])) (sym (batches_are movement fits tables is accepted)) (record {
        reached = subst IsReached (sym stand.0) (reached_push whole (change_of movement) is.reached accepted);
        few = omega (arith, more, few);
        acted = omega (arith, more, is.acted, length-append entries (Act account q message ∷ []));
        fits = all_more EntryFits entries (Act account q message) is.fits (wide, small);
        deals = all_more RegistersDeal entries (Act account q message) is.deals (no_registration asked movement asks);
        form = form_stays (with_change whole (change_of movement)) movement (length entries + 1) account q message tables ∙ is.form;
        stands = stand.1;
      })
