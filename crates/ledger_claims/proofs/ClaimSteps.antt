-- A claim by the rows is the ledger's step, and a claim that decides an open deal settles it.
use Rattle.std.proofs.Common.{◌≡◌, ℕ, ◌+◌, ◌<◌, ◌^◌, ◌&&◌, true, false, List, [], ◌∷◌, ◌++◌, length, Option, Some, None, IfSome, Result, Ok, Err, refl, sym, ap, subst, ◌∙◌, arith}
use Rattle.std.specs.List.{AllByRecursion}
use Rattle.std.specs.Option.{option_map, option_or, option_and_then}
use Rattle.std.specs.FinMap.{get}
use Rattle.std.specs.Str.{bytes_eq}
use Rattle.dh_base.specs.declared.id.Id.{Id}
use Rattle.dh_base.specs.declared.outcome.Outcome.{Outcome}
use Rattle.dh_base.specs.declared.outcome.Outcome.TheVariants.{Commit, Abort}
use Rattle.dh_base.specs.Ids.{same_id}
use Rattle.cert_core.specs.Sets.{SetTold}
use Rattle.claim_core.specs.declared.claim.Claim.{Claim}
use Rattle.deal_core.specs.Drafts.{parties_in}
use Rattle.escrow_book.specs.declared.change.Change.TheVariants.{Settled as SettledChange}
use Rattle.escrow_book.specs.declared.row.HoldRow.{HoldRow}
use Rattle.escrow_book.specs.History.{History, with_change, parties_of, settlement_of, if_commit_of, if_abort_of, payout_of}
use Rattle.escrow_book.specs.Reached.{IsReached}
use Rattle.escrow_book.specs.Refused.{settle_refusal}
use Rattle.escrow_book.proofs.Paying.{pays}
use Rattle.escrow_book.proofs.Standing.{good_parties}
use Rattle.escrow_book.proofs.Steps.{reached_push}
use Rattle.escrow_book.proofs.Sums.{all_append}
use Rattle.escrow_book.proofs.Whole.{grown}
use Rattle.keeper_core.specs.declared.change.Change.{Change}
use Rattle.keeper_core.specs.Tables.{Tables}
use Rattle.keeper_core.specs.Batches.{after_batch}
use Rattle.keeper_core.specs.Knowing.{Known}
use Rattle.keeper_core.specs.Leaving.{after_batches}
use Rattle.keeper_core.specs.Stepping.{AtMostOne, IsReply}
use Rattle.keeper_core.proofs.Stepping.{steps}
use Rattle.ledger_rows.specs.declared.entry.Entry.{Entry}
use Rattle.ledger_rows.specs.declared.entry.Entry.TheVariants.{Settlement}
use Rattle.ledger_rows.specs.declared.registration.Registration.{Registration}
use Rattle.ledger_rows.specs.RowKeys.{first_id, asset_in, is_free_key}
use Rattle.ledger_rows.specs.RowReading.{pair_of, deal_said}
use Rattle.ledger_rows.specs.RowValues.{EntryFits}
use Rattle.ledger_rows.specs.Entries.{registration_of, book_of}
use Rattle.ledger_rows.specs.LedgerTables.{free_row, StandsFor}
use Rattle.ledger_rows.proofs.DealRows.{registration_with, deal_says, deal_formed}
use Rattle.ledger_rows.proofs.Histories.{one_more}
use Rattle.ledger_rows.proofs.KeysSpelled.{free_keys_read}
use Rattle.ledger_rows.proofs.KnownDeals.{parties_by, parties_by_entries}
use Rattle.ledger_rows.proofs.RowsKept.{kept_free, apart}
use Rattle.ledger_rows.proofs.ScansStand.{holds_scanned}
use Rattle.ledger_acts.specs.LedgerStep.{Opened}
use Rattle.ledger_acts.specs.LedgerState.{form_tab, form_key, RegistersDeal, IsState}
use Rattle.ledger_acts.specs.ByRows.{batches_of}
use Rattle.ledger_acts.proofs.StateRows.{free_says, hold_small}
use Rattle.ledger_claims.specs.declared.claim_reply.ClaimReply.{ClaimReply}
use Rattle.ledger_claims.specs.declared.payees.Payee.{Payee}
use Rattle.ledger_claims.specs.declared.show_fault.ShowFault.{ShowFault}
use Rattle.ledger_claims.specs.declared.show_fault.ShowFault.TheVariants.{Store}
use Rattle.ledger_claims.specs.ClaimStep.{decided_by, standing_of, reply_by, entries_with}
use Rattle.ledger_claims.specs.Claiming.{open_refusal, open_batches, ended_or, none_or, said_refusal, said_batches, claim_refusal, claim_batches, standing_said, IsClaimAnswer, ClaimsByRows, refusal_in, ClaimsByStep}
use Rattle.ledger_claims.specs.Payees.{payee_before, payees_said, payees_refusal, owned_at, payees_at, payees_form}
use Rattle.ledger_claims.specs.Settling.{part_rows, part_refusal, settled_part, ending_changes, settling_changes, settling_refusal, settling_batches}
use Rattle.ledger_claims.specs.ShowFaults.{of_show_fault}
use Rattle.ledger_claims.proofs.ClaimCalls.{show_not_done}
use Rattle.ledger_claims.proofs.Owners.{IsOwned, owners_owned, owners_differ, no_owner}
use Rattle.ledger_claims.proofs.SettledFew.{acted_still, acts_same}
use Rattle.ledger_claims.proofs.SettlementPart.{payees_by, settles, no_misfit, all_paid}
use Rattle.ledger_claims.proofs.SettlementStands.{IsNoPayee, HasKey, ArePaid, settlement_stands, other_cells}

-- ---- who is paid, over tables that stand for a history

module _ (opened : Opened) (tables : Tables) (entries : List Entry) (is : IsState opened tables entries) where
  abbrev book : History
  book = book_of opened.rows entries

  payees_say : (deal : Id) (holds : List HoldRow) → AllByRecursion (IsOwned (book_of opened.rows entries) deal) holds →
      (payees_said holds tables ≡ Some (payees_by (book_of opened.rows entries) holds)) × (payees_refusal holds tables ≡ None)
  payees_say deal [] all = (refl, refl)
  payees_say deal (hold ∷ rest) all =
      let free = free_says opened tables entries is hold.account hold.asset all.0.wide all.0.named in
      let later = payees_say deal rest all.1 in (
        (λ i. option_map (payee_before hold) (pair_of (free.0 i) (later.0 i))),
        (λ i. option_or (free.1 i) (later.1 i)),
      )

  -- ---- an open deal

  module _ (deal : Id) (wide : length deal.0 ≡ 32) (by : Id × List ℕ) (registered : registration_of entries deal ≡ Some by) (is_open : settlement_of (book_of opened.rows entries) deal ≡ None) (outcome : Outcome) where
    abbrev found : Registration
    found = registration_with (book_of opened.rows entries) deal by

    abbrev owned : List HoldRow
    owned = owned_at deal tables

    abbrev payees : List Payee
    payees = payees_by (book_of opened.rows entries) (owned_at deal tables)

    abbrev later : History
    later = with_change (book_of opened.rows entries) (SettledChange deal outcome)

    abbrev listed : List Entry
    listed = entries ++ Settlement deal outcome ∷ []

    known : parties_of (book_of opened.rows entries) deal ≡ Some (parties_in by.1)
    known = parties_by_entries opened.rows entries deal ∙ ap parties_by registered

    accepted : settle_refusal (book_of opened.rows entries) deal ≡ None
    accepted = settles (book_of opened.rows entries) deal (parties_in by.1) known is_open

    says : (payees_said owned tables ≡ Some payees) × (payees_refusal owned tables ≡ None)
    says = payees_say deal (owned_at deal tables) (owners_owned opened tables entries is deal)

    formed : payees_form deal tables ≡ None
    formed = (λ i. option_or (holds_scanned tables opened.rows entries is.stands is.reached i) (says.1 i))

    no_fault : part_refusal (part_rows deal by.1 payees) ≡ None
    no_fault = no_misfit (book_of opened.rows entries) deal by.1 outcome is.reached known is_open (good_parties (book_of opened.rows entries) deal (parties_in by.1) is.reached known)
        (hold_small opened tables entries is deal) owned (owners_owned opened tables entries is deal) (owners_differ opened tables entries is deal)

    pub nothing_refused : settling_refusal deal found tables ≡ None
    nothing_refused = (λ i. option_or (formed i) (option_and_then (λ (ps : List Payee). part_refusal (part_rows deal by.1 ps)) (says.0 i))) ∙ no_fault

    -- ---- what is committed

    abbrev behind : History
    behind = settled_part deal outcome (part_rows deal by.1 payees)

    batch_is : (number : ℕ) → settling_batches number deal found outcome tables ≡ ending_changes number deal found outcome behind payees ∷ []
    batch_is number = (λ i. batches_of (option_map (settling_changes number deal found outcome) (says.0 i)))

    paid : ArePaid behind later payees
    paid = all_paid (book_of opened.rows entries) deal by.1 outcome is.reached known is_open (good_parties (book_of opened.rows entries) deal (parties_in by.1) is.reached known)
        (hold_small opened tables entries is deal) owned (owners_owned opened tables entries is deal) (owners_differ opened tables entries is deal)

    have_keys : (holds : List HoldRow) → AllByRecursion (IsOwned (book_of opened.rows entries) deal) holds → AllByRecursion HasKey (payees_by (book_of opened.rows entries) holds)
    have_keys [] all = tt
    have_keys (hold ∷ rest) all = (record { wide = all.0.wide; named = all.0.named }, have_keys rest all.1)

    -- who is no payee is paid nothing
    no_payout : (o : Outcome) (p : Id) (x : List ℕ) → (if_commit_of (book_of opened.rows entries) deal p x ≡ 0) × (if_abort_of (book_of opened.rows entries) deal p x ≡ 0) → payout_of (book_of opened.rows entries) deal o p x ≡ 0
    no_payout Commit p x none = none.0
    no_payout Abort p x none = none.1

    not_owner : (key : List ℕ) → is_free_key key ≡ true → (holds : List HoldRow) → IsNoPayee key (payees_by (book_of opened.rows entries) holds) → AllByRecursion (λ (hold : HoldRow). (same_id (first_id key) hold.account && bytes_eq (asset_in key) hold.asset) ≡ false) holds
    not_owner key good [] none = tt
    not_owner key good (hold ∷ rest) none = (apart key hold.account hold.asset good none.0, not_owner key good rest none.1)

    others : (key : List ℕ) → IsNoPayee key payees → free_row later key ≡ free_row (book_of opened.rows entries) key
    others key none = kept_free (book_of opened.rows entries) later key (λ good.
        let p = first_id key in
        let x = asset_in key in
        let read = (free_keys_read key (first_id key) (asset_in key)).0 (good, refl, refl) in
        let nothing = no_owner opened tables entries is deal (first_id key) (asset_in key) wide read.0 read.1 (not_owner key good owned none) in
        let pay = pays (book_of opened.rows entries) deal (first_id key) (asset_in key) outcome (grown (book_of opened.rows entries) is.reached) accepted in
        omega (arith, pay, no_payout outcome (first_id key) (asset_in key) nothing))

    few_entries : length entries < 2 ^ 63
    few_entries = (let acted = is.acted in let few = is.few in omega arith)

    abbrev changes : List Change
    changes = ending_changes (length entries + 1) deal found outcome behind payees

    stands_then : StandsFor (after_batch changes tables) opened.rows listed
    stands_then = settlement_stands tables opened.rows entries deal outcome by.0 by.1 (settlement_of (book_of opened.rows entries) deal) behind payees is.stands few_entries registered is_open paid (have_keys owned (owners_owned opened tables entries is deal)) others

    form_stays : get (after_batch changes tables) (form_tab, form_key) ≡ get tables (form_tab, form_key)
    form_stays = other_cells tables opened.rows entries deal outcome by.0 by.1 (settlement_of (book_of opened.rows entries) deal) behind payees is.stands few_entries registered is_open paid (have_keys owned (owners_owned opened tables entries is deal)) others
        (form_tab, form_key) (λ k. refl) (λ k. refl) (λ k. refl)

    reached_then : IsReached (book_of opened.rows listed)
    reached_then = subst IsReached (sym (one_more opened.rows entries (Settlement deal outcome))) (reached_push (book_of opened.rows entries) (SettledChange deal outcome) is.reached accepted)

    fits_then : AllByRecursion EntryFits listed
    fits_then = all_append EntryFits entries (Settlement deal outcome ∷ []) is.fits (wide, tt)

    pub state_then : (number : ℕ) → number ≡ length entries + 1 → IsState opened (after_batches (settling_batches number deal found outcome tables) tables) listed
    state_then number is_number =
        subst (λ (batches : List (List Change)). IsState opened (after_batches batches tables) listed) (sym (batch_is number ∙ (λ i. ending_changes (is_number i) deal found outcome behind payees ∷ []))) (record {
          reached = reached_then;
          few = (let same = acts_same entries deal outcome in let few = is.few in omega arith);
          acted = acted_still (after_batch changes tables) opened.rows listed stands_then fits_then reached_then;
          fits = fits_then;
          deals = all_append RegistersDeal entries (Settlement deal outcome ∷ []) is.deals (tt, tt);
          form = form_stays ∙ is.form;
          stands = stands_then;
        })

-- ---- the step

pub told_standing : (P Q S : Tables → Type 0) (before after : Option Tables) → ((tables : Tables) → S tables → P tables → Q tables) → IfSome before S → IfSome after (λ _. IfSome before P) → IfSome after (λ _. IfSome before Q)
told_standing P Q S before None on stands p = tt
told_standing P Q S None (Some told) on stands p = tt
told_standing P Q S (Some tables) (Some told) on stands p = on tables stands p

module _ (genesis : SetTold) (deal : Id) (claim : Claim) (opened : Opened) (entries : List Entry) where
  abbrev by_claim : Result Outcome ShowFault
  by_claim = decided_by genesis deal claim

  abbrev reply : Result ClaimReply ShowFault
  reply = reply_by (standing_of opened entries deal) (decided_by genesis deal claim)

  module _ (tables : Tables) (is : IsState opened tables entries) where
    abbrev kept : Option (Id × List ℕ) → Option Registration
    kept by = option_map (registration_with (book_of opened.rows entries) deal) by

    abbrev stands_by : Option (Id × List ℕ) → Option (Option Outcome)
    stands_by by = option_map (λ (b : Id × List ℕ). settlement_of (book_of opened.rows entries) deal) by

    said_is : deal_said deal tables ≡ Some (kept (registration_of entries deal))
    said_is = deal_says tables opened.rows entries deal is.stands is.fits

    pub standing_is : standing_said (deal_said deal tables) ≡ standing_of opened entries deal
    standing_is = ap standing_said said_is ∙ go (registration_of entries deal)
      where
        go : (by : Option (Id × List ℕ)) → option_map (λ (r : Registration). r.settled) (option_map (registration_with (book_of opened.rows entries) deal) by) ≡ option_map (λ (b : Id × List ℕ). settlement_of (book_of opened.rows entries) deal) by
        go None = refl
        go (Some by) = refl

    same_answer : (result : Result ClaimReply ShowFault) → IsReply of_show_fault (claim_refusal deal by_claim tables) (IsClaimAnswer deal by_claim tables) result →
        IsReply of_show_fault (claim_refusal deal by_claim tables) (λ answer. reply ≡ Ok answer) result
    same_answer (Ok answer) is_reply = (is_reply.0, sym (is_reply.1 ∙ ap (λ (o : Option (Option Outcome)). reply_by o by_claim) standing_is))
    same_answer (Err fault) is_reply = is_reply

    module _ (wide : length deal.0 ≡ 32) where
      refusal_said : claim_refusal deal by_claim tables ≡ said_refusal deal by_claim tables (Some (kept (registration_of entries deal)))
      refusal_said = (λ i. option_or (option_map Store (deal_formed tables opened.rows entries deal is.stands is.fits i)) (said_refusal deal by_claim tables (said_is i)))

      agrees_by : (by : Option (Id × List ℕ)) → registration_of entries deal ≡ by → said_refusal deal by_claim tables (Some (kept by)) ≡ refusal_in (reply_by (stands_by by) by_claim)
      agrees_by None none = refl
      agrees_by (Some by) registered = go (settlement_of (book_of opened.rows entries) deal) refl
        where
          open_agrees : settlement_of (book_of opened.rows entries) deal ≡ None → (d : Result Outcome ShowFault) →
              open_refusal d (settling_refusal deal (registration_with (book_of opened.rows entries) deal by) tables) ≡ refusal_in (reply_by (Some None) d)
          open_agrees none (Err fault) = refl
          open_agrees none (Ok outcome) = ap (option_map Store) (nothing_refused opened tables entries is deal wide by registered none outcome)

          go : (o : Option Outcome) → settlement_of (book_of opened.rows entries) deal ≡ o →
              ended_or o (open_refusal by_claim (settling_refusal deal (registration_with (book_of opened.rows entries) deal by) tables)) ≡ refusal_in (reply_by (Some o) by_claim)
          go (Some outcome) e = refl
          go None e = open_agrees e by_claim

      pub agrees : claim_refusal deal by_claim tables ≡ refusal_in reply
      agrees = refusal_said ∙ agrees_by (registration_of entries deal) refl

      module _ (number : ℕ) (is_number : number ≡ length entries + 1) where
        onward_by : (by : Option (Id × List ℕ)) → registration_of entries deal ≡ by → IsState opened (after_batches (said_batches number deal by_claim tables (Some (kept by))) tables) (entries_with entries deal (reply_by (stands_by by) by_claim))
        onward_by None none = is
        onward_by (Some by) registered = go (settlement_of (book_of opened.rows entries) deal) refl
          where
            open_onward : settlement_of (book_of opened.rows entries) deal ≡ None → (d : Result Outcome ShowFault) →
                IsState opened (after_batches (open_batches d (λ outcome. settling_batches number deal (registration_with (book_of opened.rows entries) deal by) outcome tables)) tables) (entries_with entries deal (reply_by (Some None) d))
            open_onward none (Err fault) = is
            open_onward none (Ok outcome) = state_then opened tables entries is deal wide by registered none outcome number is_number

            go : (o : Option Outcome) → settlement_of (book_of opened.rows entries) deal ≡ o →
                IsState opened (after_batches (none_or o (open_batches by_claim (λ outcome. settling_batches number deal (registration_with (book_of opened.rows entries) deal by) outcome tables))) tables) (entries_with entries deal (reply_by (Some o) by_claim))
            go (Some outcome) e = is
            go None e = open_onward e by_claim

        onward : claim_refusal deal by_claim tables ≡ None → IsState opened (after_batches (claim_batches number deal by_claim tables) tables) (entries_with entries deal reply)
        onward none = subst (λ (said : Option (Option Registration)). IsState opened (after_batches (said_batches number deal by_claim tables said) tables) (entries_with entries deal reply)) (sym said_is) (onward_by (registration_of entries deal) refl)

  few : (number : ℕ) (tables : Tables) → AtMostOne (claim_batches number deal by_claim tables)
  few number tables = go (deal_said deal tables)
    where
      one_or_none : (o : Option (List Payee)) (f : List Payee → List Change) → AtMostOne (batches_of (option_map f o))
      one_or_none None f = tt
      one_or_none (Some said) f = tt

      by_decision : (row : Registration) (d : Result Outcome ShowFault) → AtMostOne (open_batches d (λ outcome. settling_batches number deal row outcome tables))
      by_decision row (Err fault) = tt
      by_decision row (Ok outcome) = one_or_none (payees_at deal tables) (settling_changes number deal row outcome)

      by_end : (row : Registration) (o : Option Outcome) → AtMostOne (none_or o (open_batches by_claim (λ outcome. settling_batches number deal row outcome tables)))
      by_end row (Some outcome) = tt
      by_end row None = by_decision row by_claim

      go : (said : Option (Option Registration)) → AtMostOne (said_batches number deal by_claim tables said)
      go None = tt
      go (Some None) = tt
      go (Some (Some found)) = by_end found found.settled

pub claims_step : (genesis : SetTold) (number : ℕ) (deal : Id) (claim : Claim) (result : Result ClaimReply ShowFault) (before after : Known) → ClaimsByRows genesis number deal claim result before after → ClaimsByStep genesis number deal claim result before after
claims_step genesis number deal claim result before after by opened entries stands is_number wide =
    let replied = reply_by (standing_of opened entries deal) (decided_by genesis deal claim) in
    let refusal = claim_refusal deal (decided_by genesis deal claim) in
    let batches = claim_batches number deal (decided_by genesis deal claim) in
    record {
      reply = replied;
      later = entries_with entries deal replied;
      step = record { replies = refl; behind = refl };
      replies = steps (IsState opened) of_show_fault refusal batches (λ answer. replied ≡ Ok answer) (refusal_in replied) entries (entries_with entries deal replied)
          (few genesis deal claim opened entries number) (λ tables is. agrees genesis deal claim opened entries tables is wide) (λ tables is. onward genesis deal claim opened entries tables is wide number is_number)
          result before after show_not_done by.leaves
          (told_standing _ _ (λ tables. IsState opened tables entries) before.tables after.tables (λ tables is is_reply. same_answer genesis deal claim opened entries tables is result is_reply) stands by.reply) stands;
    }
