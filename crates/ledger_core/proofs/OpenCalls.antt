-- Opening a ledger by the tables: what each of its endings answers and leaves.
use Rattle.std.proofs.Common.{◌≡◌, ℕ, ◌+◌, ◌==◌, Bool, true, false, if◌then◌else◌, List, [], ◌∷◌, length, Option, Some, None, is_some, IfErr, Result, Ok, Err, refl, sym, ap, subst, ◌∙◌, arith}
use Rattle.std.specs.Option.{option_map}
use Rattle.std.proofs.lemmas.Bool.{eqb-true}
use Rattle.dh_base.specs.declared.id.Id.{Id}
use Rattle.dh_base.specs.Ids.{same_id}
use Rattle.escrow_book.specs.Opening.{Row}
use Rattle.keeper_core.specs.declared.change.Change.{Change}
use Rattle.keeper_core.specs.declared.row.Row.{Row as KeptRow}
use Rattle.keeper_core.specs.declared.store_fault.StoreFault.{StoreFault}
use Rattle.keeper_core.specs.declared.store_fault.StoreFault.TheVariants as store
use Rattle.keeper_core.specs.Tables.{Tables}
use Rattle.keeper_core.specs.Knowing.{Known, LooksAtMost}
use Rattle.keeper_core.specs.Leaving.{Ended, done, failed, starved, refused, ended, of_store_fault, Leaves}
use Rattle.keeper_core.specs.Stepping.{IsReply, IsRefusal, commits_unless}
use Rattle.keeper_core.specs.StoreFaults.{HasCause}
use Rattle.keeper_core.proofs.Leaving.{not_asked}
use Rattle.keeper_core.proofs.Stepping.{was_told, reads_leave, call_leaves}
use Rattle.ledger_rows.specs.Asking.{Asks}
use Rattle.ledger_rows.specs.RowReading.{ReadsRow, LacksForm, is_formed, form_refusal}
use Rattle.ledger_rows.proofs.RowReads.{look_keeps}
use Rattle.ledger_rows.proofs.RowReads as reads
use Rattle.ledger_acts.specs.LedgerState.{form_tab, form_key}
use Rattle.ledger_core.specs.declared.form_row.FormRow.{FormRow}
use Rattle.ledger_core.specs.declared.open_fault.OpenFault.{OpenFault}
use Rattle.ledger_core.specs.declared.open_fault.OpenFault.TheVariants.{BadOpening, OtherOpening, Store}
use Rattle.ledger_core.specs.declared.opens.Counts.{Counts}
use Rattle.ledger_core.specs.FormRows.{form_in, form_said}
use Rattle.ledger_core.specs.OpenFaults.{of_open_fault}
use Rattle.ledger_core.specs.Opens.{deal_rows, deals_refusal, AreCounts, AreCountsFor, counting_looks, begin_changes, no_counts, kept_refusal, batches_for, OpensBy, OpensGood, IsStoreOnly, OpenCause, LacksItsForm}
use Rattle.ledger_core.proofs.Asked.{told_always, told_on}

-- ---- faults

pub store_not_done : (fault : StoreFault) → of_store_fault fault ≡ done → ⊥
store_not_done store.Keeper e = absurd cc
store_not_done (store.BadRow tab key) e = absurd cc
store_not_done store.NoMemory e = absurd cc

mapped : (how : Ended) (refusal : Option StoreFault) (fault : StoreFault) → IsRefusal how refusal fault → IsRefusal how (option_map Store refusal) (Store fault)
mapped done refusal fault is = is
mapped failed refusal fault is = tt
mapped starved refusal fault is = tt
mapped refused refusal fault is = ap (λ (o : Option StoreFault). option_map Store o) is

-- a row that lacks its form
its_form : (tab : ℕ) (row : KeptRow) → LacksForm tab row → LacksItsForm tab row
its_form tab row lacks = go (tab == form_tab) refl
  where
    go : (here : Bool) → (tab == form_tab) ≡ here → (if here then is_some (form_in row.val) else is_formed tab row) ≡ false
    go true is =
        let tab_is : tab ≡ 1 = eqb-true tab form_tab is in
        let formed : is_formed tab row ≡ true = ap (λ (t : ℕ). is_formed t row) tab_is in
        absurd cc
    go false is = lacks

pub stored_cause : (told : Option Tables) (fault : StoreFault) → HasCause LacksForm told fault → OpenCause told (Store fault)
stored_cause told store.Keeper is = tt
stored_cause told (store.BadRow tab key) is = record { row = is.row; named = is.named; lacks = its_form tab is.row is.lacks; stands = is.stands }
stored_cause told store.NoMemory is = tt

-- the counts of tables that name the identity are refused by a row of a deal
pub stored_count : (identity : Id) (kept : FormRow) (fault : StoreFault) (before after : Known) → same_id kept.identity identity ≡ true → Asks of_store_fault counting_looks deals_refusal AreCounts (Err fault) before after →
    Asks of_open_fault counting_looks (λ tables. kept_refusal identity tables (Some (Some kept))) AreCounts (Err (Store fault)) before after
stored_count identity kept fault before after same asked = record {
  reply = told_on _ _ before.tables after.tables (λ tables is.
      subst (λ (here : Bool). IsRefusal (of_store_fault fault) (if here then option_map Store (deals_refusal tables) else Some (OtherOpening kept.identity)) (Store fault)) (sym same) (mapped (of_store_fault fault) (deals_refusal tables) fault is)) asked.reply;
  leaves = asked.leaves;
  looked = asked.looked;
}

-- ---- nothing is asked

pub starved_before : (refusal : Tables → Option OpenFault) (batches : Tables → List (List Change)) (known : Known) → OpensBy refusal batches (Err (Store store.NoMemory)) known known
starved_before refusal batches known = record {
  leaves = reads_leave (commits_unless refusal batches) starved known known (λ e. absurd cc) (not_asked starved [] known (λ e. absurd cc) (λ e. absurd cc));
  reply = told_always _ known.tables known.tables (λ tables. tt);
  looked = told_always _ known.tables known.tables (λ tables. (omega arith, omega arith));
}

module _ (identity : Id) (rows : List Row) where
  abbrev refusal : Tables → Option OpenFault
  refusal tables = kept_refusal identity tables (form_said tables)

  abbrev batches : Tables → List (List Change)
  batches tables = batches_for identity rows (form_said tables)

  abbrev commits : Tables → List (List Change)
  commits = commits_unless refusal batches

  abbrev Read : Result (Option FormRow) StoreFault → Known → Known → Type 0
  Read result before after = ReadsRow form_in form_tab form_key result before after

  unread : (how : Ended) (tables : Tables) (said : Option (Option FormRow)) (fault : StoreFault) → IsRefusal how (form_refusal form_tab form_key said) fault → IsRefusal how (kept_refusal identity tables said) (Store fault)
  unread done tables said fault is = is
  unread failed tables said fault is = tt
  unread starved tables said fault is = tt
  unread refused tables None fault is = ap (λ (o : Option StoreFault). option_map Store o) is
  unread refused tables (Some form) fault is = absurd cc

  -- the row that names an opening was not read
  pub form_unread : (fault : StoreFault) (before after : Known) → Read (Err fault) before after → OpensGood identity rows (Err (Store fault)) before after
  form_unread fault before after read = record {
    leaves = reads_leave commits (of_store_fault fault) before after (store_not_done fault) read.leaves;
    reply = told_on _ _ before.tables after.tables (λ tables is. unread (of_store_fault fault) tables (form_said tables) fault is) read.reply;
    looked = told_always _ before.tables after.tables (λ tables. (read.looked.0, omega (arith, read.looked.1)));
  }

  module _ (before mid after : Known) where
    more_looked : (n : ℕ) → LooksAtMost 1 before mid → LooksAtMost (22 + n) mid after → LooksAtMost (64 + n) before after
    more_looked n one more = (omega (arith, one.0, more.0), omega (arith, one.1, more.1))

    -- ---- empty tables are filled

    begins : (tables : Tables) → form_said tables ≡ Some None → begin_changes identity rows ∷ [] ≡ commits tables
    begins tables is = ap (λ (said : Option (Option FormRow)). if is_some (kept_refusal identity tables said) then [] else batches_for identity rows said) (sym is)

    filled_reply : (result : Result Counts OpenFault) → IfErr result IsStoreOnly → (counts_are : (counts : Counts) → result ≡ Ok counts → counts ≡ no_counts) → (tables : Tables) → form_said tables ≡ Some None →
        IsReply of_open_fault (refusal tables) (AreCountsFor tables (form_said tables)) result
    filled_reply (Ok counts) only none tables is =
        subst (λ (said : Option (Option FormRow)). IsReply of_open_fault (kept_refusal identity tables said) (AreCountsFor tables said) (Ok counts)) (sym is) (refl, none counts refl)
    filled_reply (Err (Store store.Keeper)) only none tables is = tt
    filled_reply (Err (Store (store.BadRow tab key))) only none tables is = absurd only
    filled_reply (Err (Store store.NoMemory)) only none tables is = tt
    filled_reply (Err (BadOpening row)) only none tables is = absurd only
    filled_reply (Err (OtherOpening kept)) only none tables is = absurd only

    pub filled : (result : Result Counts OpenFault) → Read (Ok None) before mid → Leaves (begin_changes identity rows ∷ []) (ended of_open_fault result) mid after → IfErr result IsStoreOnly → ((counts : Counts) → result ≡ Ok counts → counts ≡ no_counts) →
        after.looked ≡ mid.looked → OpensGood identity rows result before after
    filled result read left only none same = record {
      leaves = call_leaves commits (begin_changes identity rows ∷ []) (ended of_open_fault result) before mid after read.leaves left (told_on _ _ before.tables mid.tables (λ tables is. begins tables is.1) read.reply);
      reply = reads.told_both (λ tables. (form_refusal form_tab form_key (form_said tables) ≡ None) × (form_said tables ≡ Some None)) (λ tables. Unit {0}) (λ tables. IsReply of_open_fault (refusal tables) (AreCountsFor tables (form_said tables)) result)
          before.tables mid.tables after.tables (look_keeps before mid read.leaves) (was_told (begin_changes identity rows ∷ []) (ended of_open_fault result) mid after left) (λ tables is there. filled_reply result only none tables is.1) read.reply (told_always _ mid.tables after.tables (λ tables. tt));
      looked = told_always _ before.tables after.tables (λ tables. (omega (arith, read.looked.0, same), omega (arith, read.looked.1, same)));
    }

    -- ---- other tables are counted

    none_batched : (tables : Tables) (form : FormRow) → form_said tables ≡ Some (Some form) → [] ≡ commits tables
    none_batched tables form is = go (is_some (kept_refusal identity tables (Some (Some form)))) ∙ ap (λ (said : Option (Option FormRow)). if is_some (kept_refusal identity tables said) then [] else batches_for identity rows said) (sym is)
      where
        go : (some : Bool) → [] ≡ (if some then [] else batches_for identity rows (Some (Some form)))
        go true = refl
        go false = refl

    pub counted : (form : FormRow) (result : Result Counts OpenFault) → Read (Ok (Some form)) before mid → Asks of_open_fault counting_looks (λ tables. kept_refusal identity tables (Some (Some form))) AreCounts result mid after →
        OpensGood identity rows result before after
    counted form result read asked =
        let keeps = look_keeps before mid read.leaves in
        let told = was_told [] (ended of_open_fault result) mid after asked.leaves in
        record {
          leaves = call_leaves commits [] (ended of_open_fault result) before mid after read.leaves asked.leaves (told_on _ _ before.tables mid.tables (λ tables is. none_batched tables form is.1) read.reply);
          reply = reads.told_both (λ tables. (form_refusal form_tab form_key (form_said tables) ≡ None) × (form_said tables ≡ Some (Some form))) (λ tables. IsReply of_open_fault (kept_refusal identity tables (Some (Some form))) (AreCounts tables) result)
              (λ tables. IsReply of_open_fault (refusal tables) (AreCountsFor tables (form_said tables)) result) before.tables mid.tables after.tables keeps told
              (λ tables is replies. subst (λ (said : Option (Option FormRow)). IsReply of_open_fault (kept_refusal identity tables said) (AreCountsFor tables said) result) (sym is.1) replies) read.reply asked.reply;
          looked = reads.told_both (λ tables. Unit {0}) (λ tables. LooksAtMost (counting_looks tables) mid after) (λ tables. LooksAtMost (64 + length (deal_rows tables)) before after) before.tables mid.tables after.tables keeps told
              (λ tables there more. more_looked (length (deal_rows tables)) read.looked more) (told_always _ before.tables mid.tables (λ tables. tt)) asked.looked;
        }
