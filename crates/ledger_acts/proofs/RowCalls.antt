-- An act by the rows that it reads: what each of its endings answers and leaves, whatever the act.
use Rattle.std.proofs.Common.{◌≡◌, ℕ, List, [], ◌∷◌, Option, Some, None, is_some, if◌then◌else◌, Ok, Err, sym, ap, subst, ◌∙◌}
use Rattle.std.specs.Option.{option_map, option_and_then, option_or}
use Rattle.dh_base.specs.declared.id.Id.{Id}
use Rattle.keeper_core.specs.declared.change.Change.{Change}
use Rattle.keeper_core.specs.declared.keep_fault.KeepFault.{KeepFault}
use Rattle.keeper_core.specs.declared.keep_fault.KeepFault.TheVariants as keep
use Rattle.keeper_core.specs.declared.store_fault.StoreFault.{StoreFault}
use Rattle.keeper_core.specs.declared.store_fault.StoreFault.TheVariants as store
use Rattle.keeper_core.specs.StoreFaults.{store_fault_of}
use Rattle.keeper_core.specs.Tables.{Tables}
use Rattle.keeper_core.specs.Knowing.{Known}
use Rattle.keeper_core.specs.Leaving.{Ended, done, of_store_fault, of_keep_fault, Leaves}
use Rattle.keeper_core.specs.Stepping.{LeavesBy, IsRefusal, commits_unless}
use Rattle.keeper_core.proofs.Leaving.{read_and, handed_on}
use Rattle.keeper_core.proofs.Stepping.{was_told, reads_leave, call_leaves}
use Rattle.ledger_rows.specs.RowReading.{Reads, LacksForm}
use Rattle.ledger_acts.specs.declared.ledger_fault.LedgerFault.{LedgerFault}
use Rattle.ledger_acts.specs.declared.ledger_fault.LedgerFault.TheVariants.{Store}
use Rattle.ledger_acts.specs.LedgerFaults.{of_ledger_fault}
use Rattle.ledger_acts.specs.ByRows.{IsRefusedBy, LooksBy, FitsNoPart, RowAct, act_refusal, batches_of, act_batches, ActsByRows}
use Rattle.ledger_acts.proofs.Answering.{by_rule, store_not_done, never_done, stored, read_cause, keeper_cause, rule_cause, told_always, told_on, told_later, looks_last}

module _ {A : Type 0} (m n : ℕ) (through : Option ℕ) (act : RowAct A) where
  abbrev refusal : Tables → Option LedgerFault
  refusal = act_refusal act

  abbrev commits : Tables → List (List Change)
  commits = commits_unless refusal (act_batches act)

  -- a row is not read
  pub unread : (fault : StoreFault) (before after : Known) → Reads m act.said act.form LacksForm (Err fault) before after → LooksBy n through before after → ActsByRows n through act (Err (Store fault)) before after
  unread fault before after r looked = record {
    leaves = reads_leave commits (of_store_fault fault) before after (store_not_done fault) r.leaves;
    reply = told_on _ _ before.tables after.tables (λ tables is. stored (of_store_fault fault) (option_and_then act.refusal (act.said tables)) (act.form tables) fault is) r.reply;
    cause = read_cause after.tables fault r.cause;
    looked = looked;
  }

  -- by what was read
  by_found : (found : A) (tables : Tables) → act.form tables ≡ None → act.said tables ≡ Some found → (refusal tables ≡ act.refusal found) × (act_batches act tables ≡ act.changes found ∷ [])
  by_found found tables formed says = (
    λ i. option_or (option_map Store (formed i)) (option_and_then act.refusal (says i)),
    λ i. batches_of (option_map act.changes (says i)),
  )

  pub refused_act : (found : A) (fault : LedgerFault) (before after : Known) → ((tab : ℕ) (key : Id) → act.refusal found ≡ Some (Store (store.BadRow tab key)) → FitsNoPart tab key) →
      Reads m act.said act.form LacksForm (Ok found) before after → LooksBy n through before after → IsRefusedBy (act.refusal found) fault → ActsByRows n through act (Err fault) before after
  refused_act found fault before after caused r looked by =
      let rule = by_rule (act.refusal found) fault by in
      record {
        leaves = reads_leave commits (of_ledger_fault fault) before after (never_done fault) (read_and (of_ledger_fault fault) before after rule.1 r.leaves);
        reply = told_on _ _ before.tables after.tables (λ tables ok. subst (λ (o : Option LedgerFault). IsRefusal (of_ledger_fault fault) o fault) (sym (by_found found tables ok.0 ok.1).0) rule.0) r.reply;
        cause = rule_cause after.tables (act.refusal found) fault caused by;
        looked = looked;
      }

  -- what is committed, by the tables
  committed : (found : A) (batch : List Change) (tables : Tables) → act.refusal found ≡ None → batch ≡ act.changes found → act.form tables ≡ None → act.said tables ≡ Some found → batch ∷ [] ≡ commits tables
  committed found batch tables none made formed says =
      let by = by_found found tables formed says in
      ap (λ (c : List Change). c ∷ []) made ∙ sym by.1 ∙ sym (ap (λ (o : Option LedgerFault). if is_some o then [] else act_batches act tables) (by.0 ∙ none))

  module _ (found : A) (batch : List Change) (before mid after : Known) (r : Reads m act.said act.form LacksForm (Ok found) before mid) (looked : LooksBy n through before mid) (none : act.refusal found ≡ None) (made : batch ≡ act.changes found) where
    left : (how : Ended) → Leaves (batch ∷ []) how mid after → LeavesBy commits how before after
    left how l = call_leaves commits (batch ∷ []) how before mid after r.leaves l (told_on _ _ before.tables mid.tables (λ tables ok. committed found batch tables none made ok.0 ok.1) r.reply)

    pub is_made : Leaves (batch ∷ []) done mid after → after.looked ≡ mid.looked → ActsByRows n through act (Ok tt) before after
    is_made l same = record {
      leaves = left done l;
      reply = told_later _ before.tables mid.tables after.tables (was_told (batch ∷ []) done mid after l) (told_on _ _ before.tables mid.tables (λ tables ok. ((by_found found tables ok.0 ok.1).0 ∙ none, tt)) r.reply);
      cause = tt;
      looked = looks_last n through before mid after (was_told (batch ∷ []) done mid after l) same looked;
    }

    pub not_kept : (fault : KeepFault) → Leaves (batch ∷ []) (of_keep_fault fault) mid after → after.looked ≡ mid.looked → ActsByRows n through act (Err (Store (store_fault_of fault))) before after
    not_kept fault l same = record {
      leaves = subst (λ (how : Ended). LeavesBy commits how before after) (sym (handed_on fault)) (left (of_keep_fault fault) l);
      reply = told_always _ before.tables after.tables (λ tables. any_refusal fault tables);
      cause = keeper_cause after.tables fault;
      looked = looks_last n through before mid after (was_told (batch ∷ []) (of_keep_fault fault) mid after l) same looked;
    }
      where
        any_refusal : (f : KeepFault) (tables : Tables) → IsRefusal (of_store_fault (store_fault_of f)) (refusal tables) (Store (store_fault_of f))
        any_refusal keep.Failed tables = tt
        any_refusal keep.NoMemory tables = tt
