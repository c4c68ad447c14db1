-- What is kept is what is opened.
use Rattle.std.proofs.Common.{◌≡◌, ℕ, ◌+◌, ◌<◌, ◌==◌, ◌&&◌, Bool, true, false, cond, if◌then◌else◌, List, [], ◌∷◌, map, length, Option, Some, None, is_some, IfSome, Result, Ok, Err, refl, sym, ap, subst, ◌∙◌, arith, inl, inr}
use Rattle.std.specs.List.{count_by}
use Rattle.std.specs.Option.{option_map, option_or}
use Rattle.std.specs.FinMap.{empty, get-empty}
use Rattle.std.proofs.lemmas.List.{length-map}
use Rattle.std.proofs.lemmas.List.Sums.{sum_by-cons}
use Rattle.dh_base.specs.declared.id.Id.{Id}
use Rattle.dh_base.proofs.SameIds.{same_id-self}
use Rattle.act_text.specs.declared.act.Act.{Act}
use Rattle.act_text.specs.declared.act.Act.TheVariants.{Register, Pay, Escrow, Transfer, StartDeal, Vote}
use Rattle.act_text.specs.declared.act_fault.ActFault.{ActFault}
use Rattle.act_text.specs.declared.office.Office.TheVariants.{Ledger}
use Rattle.act_text.specs.ActReading.{act_of}
use Rattle.escrow_book.specs.declared.change.Change.TheVariants.{Registered}
use Rattle.escrow_book.specs.Opening.{Row, is_good_opening, first_bad_row}
use Rattle.escrow_book.specs.History.{History, with_change, is_known}
use Rattle.escrow_book.specs.Reached.{started}
use Rattle.escrow_book.proofs.OpeningRows.{good_or_bad}
use Rattle.keeper_core.specs.declared.change.Change.{Change}
use Rattle.keeper_core.specs.declared.row.Row.{Row as KeptRow}
use Rattle.keeper_core.specs.Tables.{Tables, cell_cmp}
use Rattle.keeper_core.specs.Knowing.{Known}
use Rattle.keeper_core.specs.Leaving.{done, ended, after_batches, Applies}
use Rattle.keeper_core.specs.StoreFaults.{bad_row_of}
use Rattle.keeper_core.specs.Stepping.{AtMostOne, IsReply, Backs, Steps, commits_unless}
use Rattle.keeper_core.proofs.Leaving.{is_told}
use Rattle.keeper_core.proofs.Stepping.{was_told, steps}
use Rattle.ledger_rows.specs.declared.entry.Entry.{Entry}
use Rattle.ledger_rows.specs.declared.entry.Entry.TheVariants.{Act as Accepted, Settlement}
use Rattle.ledger_rows.specs.Entries.{digest_of, parties_in, with_read, with_entry, with_entries}
use Rattle.ledger_rows.specs.RowKeys.{deal_tab}
use Rattle.ledger_rows.specs.RowReading.{row_of}
use Rattle.ledger_rows.specs.RowValues.{entry_text}
use Rattle.ledger_rows.specs.Scanning.{is_settlement}
use Rattle.ledger_rows.proofs.OpenCounted.{deals_counted}
use Rattle.ledger_rows.proofs.SettledCounted.{settled_counted}
use Rattle.ledger_acts.specs.LedgerStep.{Opened, is_act, acts_of}
use Rattle.ledger_acts.specs.LedgerState.{form_tab, form_key, form_text, IsState}
use Rattle.ledger_core.specs.declared.form_row.FormRow.{FormRow}
use Rattle.ledger_core.specs.declared.open_fault.OpenFault.{OpenFault}
use Rattle.ledger_core.specs.declared.open_fault.OpenFault.TheVariants.{BadOpening, OtherOpening, Store}
use Rattle.ledger_core.specs.declared.opens.Counts.{Counts}
use Rattle.ledger_core.specs.FormRows.{form_in, form_said}
use Rattle.ledger_core.specs.OpenFaults.{of_open_fault}
use Rattle.ledger_core.specs.Openings.{AreSpelled}
use Rattle.ledger_core.specs.Opens.{most_entries, deals_refusal, AreCounts, AreCountsFor, AreCountsOf, no_counts, begin_changes, bad_opening, kept_refusal, open_refusal, batches_for, open_batches, OpensByRows, OpensKept, OpensEmpty}
use Rattle.ledger_core.proofs.Asked.{told_both, told_on, reply_on}
use Rattle.ledger_core.proofs.Beginning.{begins}
use Rattle.ledger_core.proofs.OpenCalls.{store_not_done}

-- ---- the opening of a history

act_opening : (book : History) (account : Id) (read : Result Act ActFault) → (with_read book account read).opening ≡ book.opening
act_opening book account (Err fault) = refl
act_opening book account (Ok (Register text)) = go (is_known book (digest_of text))
  where
    go : (known : Bool) → (if known then book else with_change book (Registered (digest_of text) (parties_in text))).opening ≡ book.opening
    go true = refl
    go false = refl
act_opening book account (Ok (Pay house ledger to asset amount)) = refl
act_opening book account (Ok (Escrow deal ledger asset amount)) = refl
act_opening book account (Ok (Transfer deal ledger turn to asset amount)) = refl
act_opening book account (Ok (StartDeal text)) = refl
act_opening book account (Ok (Vote deal index choice)) = refl

entry_opening : (book : History) (e : Entry) → (with_entry book e).opening ≡ book.opening
entry_opening book (Accepted account q message) = act_opening book account (act_of Ledger message)
entry_opening book (Settlement deal outcome) = refl

opening_kept : (book : History) (entries : List Entry) → (with_entries book entries).opening ≡ book.opening
opening_kept book [] = refl
opening_kept book (e ∷ entries) = opening_kept (with_entry book e) entries ∙ entry_opening book e

-- an entry is an act or settles a deal
acts_and_settlements : (entries : List Entry) → acts_of entries + count_by is_settlement entries ≡ length entries
acts_and_settlements [] = refl
acts_and_settlements (Accepted account q message ∷ entries) =
    omega (arith, acts_and_settlements entries, sum_by-cons (λ (e : Entry). cond (is_act e) 1 0) (Accepted account q message) entries, sum_by-cons (λ (e : Entry). cond (is_settlement e) 1 0) (Accepted account q message) entries)
acts_and_settlements (Settlement deal outcome ∷ entries) =
    omega (arith, acts_and_settlements entries, sum_by-cons (λ (e : Entry). cond (is_act e) 1 0) (Settlement deal outcome) entries, sum_by-cons (λ (e : Entry). cond (is_settlement e) 1 0) (Settlement deal outcome) entries)

-- ---- tables that stand for a history

module _ (opened : Opened) (wide : length opened.identity.0 ≡ 32) where
  abbrev its_form : FormRow
  its_form = record { identity = opened.identity }

  reads_form : form_in (form_text opened) ≡ Some its_form
  reads_form =
      let long : length (form_text opened) ≡ 34 = omega (arith, wide) in
      ap (λ (n : ℕ). if (n == 34) && true then Some its_form else None) long

  module _ (entries : List Entry) (tables : Tables) (state : IsState opened tables entries) where
    says : form_said tables ≡ Some (Some its_form)
    says = ap (λ (o : Option (List ℕ)). row_of form_in o) state.form ∙ ap (option_map Some) reads_form

    not_bad : bad_opening opened ≡ None
    not_bad =
        let good : is_good_opening opened.rows ≡ true = ap (λ (rows : List Row). is_good_opening rows) (sym (opening_kept (started opened.rows) entries)) ∙ state.reached.good in
        ap (option_map BadOpening) ((good_or_bad [] opened.rows).0 good)

    deals_formed : deals_refusal tables ≡ None
    deals_formed = ap (option_map (λ (row : KeptRow). bad_row_of deal_tab row.key)) (deals_counted tables opened.rows entries opened.identity state.stands state.fits).0

    pub agrees : open_refusal opened tables ≡ None
    agrees =
        (λ i. option_or (not_bad i) (kept_refusal opened.identity tables (says i)))
        ∙ (λ i. if same_id-self opened.identity i then option_map Store (deals_formed i) else Some (OtherOpening opened.identity))

    no_batch : open_batches opened tables ≡ []
    no_batch = ap (batches_for opened.identity opened.rows) says

    pub onward : IsState opened (after_batches (open_batches opened tables) tables) entries
    onward = subst (λ (batches : List (List Change)). IsState opened (after_batches batches tables) entries) (sym no_batch) state

    few : length entries < most_entries
    few = omega (arith, state.acted, state.few)

    pub counts_are : (counts : Counts) → AreCountsFor tables (form_said tables) counts → AreCountsOf entries counts
    counts_are counts are =
        let by : AreCounts tables counts = subst (λ (said : Option (Option FormRow)). AreCountsFor tables said counts) says are in
        let len : length (map entry_text entries) ≡ length entries = length-map entries entry_text in
        let all : counts.entries ≡ length entries = by.0 (map entry_text entries) state.stands.numbered (omega (arith, len, few)) ∙ len in
        let settled = settled_counted tables opened.rows entries state.stands state.fits state.reached in
        (all, omega (arith, by.1, all, settled, acts_and_settlements entries))

  few_batches : (said : Option (Option FormRow)) → AtMostOne (batches_for opened.identity opened.rows said)
  few_batches None = tt
  few_batches (Some None) = tt
  few_batches (Some (Some form)) = tt

  never_done : (fault : OpenFault) → of_open_fault fault ≡ done → ⊥
  never_done (BadOpening row) e = absurd cc
  never_done (OtherOpening kept) e = absurd cc
  never_done (Store fault) e = store_not_done fault e

  any_answer : (result : Result Counts OpenFault) (refusal : Option OpenFault) (P : Counts → Type 0) → IsReply of_open_fault refusal P result → IsReply of_open_fault refusal (λ _. Unit {0}) result
  any_answer (Ok counts) refusal P is = (is.0, tt)
  any_answer (Err fault) refusal P is = is

  pub opens_kept : (result : Result Counts OpenFault) (before after : Known) → OpensByRows opened result before after → OpensKept opened result before after
  opens_kept result before after by entries stands = (
    told_both _ _ _ before.tables after.tables (was_told by.leaves.batches (ended of_open_fault result) before after by.leaves.leaves) by.reply stands
        (λ tables is state. reply_on of_open_fault (open_refusal opened tables) None (AreCountsFor tables (form_said tables)) (AreCountsOf entries) result (agrees entries tables state) (λ counts none are. counts_are entries tables state counts are) is),
    still result (steps (IsState opened) of_open_fault (open_refusal opened) (open_batches opened) (λ _. Unit {0}) None entries entries
        (λ tables. few_batches (form_said tables)) (agrees entries) (λ tables state none. onward entries tables state) result before after never_done by.leaves
        (told_on _ _ before.tables after.tables (λ tables is. any_answer result (open_refusal opened tables) (AreCountsFor tables (form_said tables)) is) by.reply) stands),
  )
    where
      still : (r : Result Counts OpenFault) → Steps (IsState opened) of_open_fault None (λ (x : Counts). Unit {0}) entries entries r before after → Backs (IsState opened) after.tables entries
      still (Ok counts) s = s.accepted
      still (Err fault) s = elim s.stopped [ inl backs ↦ backs | inr both ↦ both.2 ]

-- ---- empty tables

none_mapped : {A B : Type 0} (f : A → B) (o : Option A) → option_map f o ≡ None → o ≡ None
none_mapped f None e = refl
none_mapped f (Some x) e = absurd cc

first_none : (one other : Option OpenFault) → option_or one other ≡ None → one ≡ None
first_none None other e = refl
first_none (Some fault) other e = absurd cc

empty_says : form_said empty ≡ Some None
empty_says = ap (λ (o : Option (List ℕ)). row_of form_in o) (get-empty cell_cmp (form_tab, form_key))

abbrev commits : Opened → Tables → List (List Change)
commits opened = commits_unless (open_refusal opened) (open_batches opened)

pub opens_empty : (opened : Opened) → AreSpelled opened.rows → (result : Result Counts OpenFault) (before after : Known) → OpensByRows opened result before after → OpensEmpty opened result before after
opens_empty opened spelled (Err fault) before after by is_empty = tt
opens_empty opened spelled (Ok counts) before after by is_empty = go before.tables after.tables is_empty by.leaves.made by.leaves.leaves.applies by.reply
  where
    filled : (later : Tables) → open_refusal opened empty ≡ None → by.leaves.batches ≡ commits opened empty → later ≡ after_batches by.leaves.batches empty → IsState opened later []
    filled later none made is =
        let chosen : commits opened empty ≡ open_batches opened empty = ap (λ (o : Option OpenFault). if is_some o then [] else open_batches opened empty) none in
        let batches : open_batches opened empty ≡ begin_changes opened.identity opened.rows ∷ [] = ap (batches_for opened.identity opened.rows) empty_says in
        let good = none_mapped BadOpening (first_bad_row opened.rows) (first_none (bad_opening opened) (kept_refusal opened.identity empty (form_said empty)) none) in
        subst (λ (t : Tables). IsState opened t []) (sym (is ∙ ap (λ (bs : List (List Change)). after_batches bs empty) (made ∙ chosen ∙ batches))) (begins opened spelled good)

    none_are : AreCountsFor empty (form_said empty) counts → AreCountsOf [] counts
    none_are are =
        let no : counts ≡ no_counts = subst (λ (said : Option (Option FormRow)). AreCountsFor empty said counts) empty_says are in
        (ap (λ (n : Counts). n.entries) no, ap (λ (n : Counts). n.acts) no)

    go : (ta tb : Option Tables) → ta ≡ Some empty → IfSome tb (λ _. IfSome ta (λ tables. by.leaves.batches ≡ commits opened tables)) → Applies ta by.leaves.batches tb →
        IfSome tb (λ _. IfSome ta (λ tables. IsReply of_open_fault (open_refusal opened tables) (AreCountsFor tables (form_said tables)) (Ok counts))) →
        IfSome tb (λ tables. AreCountsOf [] counts × IsState opened tables [])
    go ta None is made applies reply = tt
    go None (Some later) is made applies reply = absurd cc
    go (Some tables) (Some later) is made applies reply =
        let same : tables ≡ empty = is_told tables empty is in
        let replied = subst (λ (t : Tables). IsReply of_open_fault (open_refusal opened t) (AreCountsFor t (form_said t)) (Ok counts)) same reply in
        (none_are replied.1, filled later replied.0 (made ∙ ap (commits opened) same) (is_told later (after_batches by.leaves.batches tables) applies ∙ ap (after_batches by.leaves.batches) same))
