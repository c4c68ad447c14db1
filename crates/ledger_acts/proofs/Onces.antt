-- Acts under keys, by the rows: what each ending answers and leaves.
use Rattle.std.proofs.Common.{◌≡◌, ℕ, ◌+◌, Bool, true, false, if◌then◌else◌, List, [], Option, Some, None, is_some, IfSome, IsSome, Result, Ok, Err, refl, sym, ap, subst, ◌∙◌, arith}
use Rattle.std.specs.Option.{option_map, option_or}
use Rattle.dh_base.specs.declared.id.Id.{Id}
use Rattle.dh_base.specs.Ids.{same_id}
use Rattle.keeper_core.specs.declared.change.Change.{Change}
use Rattle.keeper_core.specs.declared.store_fault.StoreFault.{StoreFault}
use Rattle.keeper_core.specs.Tables.{Tables}
use Rattle.keeper_core.specs.Knowing.{Known}
use Rattle.keeper_core.specs.Leaving.{Ended, done, refused, of_store_fault, KeepsTold, Leaves}
use Rattle.keeper_core.specs.Stepping.{LeavesBy, IsRefusal, commits_unless}
use Rattle.keeper_core.proofs.Leaving.{is_told, not_asked, read_and, then_any}
use Rattle.keeper_core.proofs.Stepping.{was_told, reads_leave, call_leaves}
use Rattle.ledger_rows.specs.declared.used_key.UsedKey.{UsedKey}
use Rattle.ledger_rows.specs.RowReading.{Reads, LacksForm, used_said, used_refusal}
use Rattle.ledger_rows.proofs.RowReads.{look_keeps}
use Rattle.ledger_acts.specs.declared.ledger_fault.LedgerFault.{LedgerFault}
use Rattle.ledger_acts.specs.declared.ledger_fault.LedgerFault.TheVariants.{KeyReused, Store}
use Rattle.ledger_acts.specs.LedgerFaults.{of_ledger_fault}
use Rattle.ledger_acts.specs.LedgerStep.{kept_reply}
use Rattle.ledger_acts.specs.ByRows.{ByRows}
use Rattle.ledger_acts.specs.Once.{reused, by_key, number_by, batches_by, key_said, key_at, once_refusal, once_batches, IsOnceAnswer}
use Rattle.ledger_acts.proofs.Answering.{store_not_done, stored, read_cause, told_on, few_looks, looks_first}

told_both : (P Q R : Tables → Type 0) (before mid after : Option Tables) → KeepsTold before mid → IfSome after (λ _. IsSome mid) → ((tables : Tables) → P tables → Q tables → R tables) →
    IfSome mid (λ _. IfSome before P) → IfSome after (λ _. IfSome mid Q) → IfSome after (λ _. IfSome before R)
told_both P Q R before mid None keeps told both p q = tt
told_both P Q R before None (Some later) keeps told both p q = absurd cc
told_both P Q R None (Some middle) (Some later) keeps told both p q = tt
told_both P Q R (Some tables) (Some middle) (Some later) keeps told both p q = both tables p (subst Q (is_told middle tables keeps) q)

module _ (n : ℕ) (through : Option ℕ) (account : Id) (q : ℕ) (message : Id) (number : ℕ) (refusal : Tables → Option LedgerFault) (batches : Tables → List (List Change)) where
  abbrev whole : Tables → Option LedgerFault
  whole = once_refusal account q message refusal

  abbrev made : Tables → List (List Change)
  made = once_batches account q batches

  abbrev commits : Tables → List (List Change)
  commits = commits_unless whole made

  abbrev Once : Result ℕ LedgerFault → Known → Known → Type 0
  Once = ByRows (1 + n) through whole made (IsOnceAnswer account q number)

  -- the row of the key is not read
  pub key_unread : (fault : StoreFault) (before after : Known) → Reads 1 (used_said account q) (used_refusal account q) LacksForm (Err fault) before after → Once (Err (Store fault)) before after
  key_unread fault before after r = record {
    leaves = reads_leave commits (of_store_fault fault) before after (store_not_done fault) r.leaves;
    reply = told_on _ _ before.tables after.tables (λ tables is. stored (of_store_fault fault) (by_key message (key_at account q tables) (refusal tables)) (used_refusal account q tables) fault is) r.reply;
    cause = read_cause after.tables fault r.cause;
    looked = few_looks 1 (1 + n) through before after (omega arith) r.looked;
  }

  -- where the key has signed an act
  used_whole : (used : UsedKey) (tables : Tables) → used_refusal account q tables ≡ None → used_said account q tables ≡ Some (Some used) → whole tables ≡ reused message used
  used_whole used tables formed says = (λ i. option_or (option_map Store (formed i)) (by_key message (key_said (says i)) (refusal tables)))

  answer_kept : (used : UsedKey) (tables : Tables) → used_said account q tables ≡ Some (Some used) → used.at ≡ number_by (key_at account q tables) number
  answer_kept used tables says = sym (ap (λ (o : Option (Option UsedKey)). number_by (key_said o) number) says)

  nothing_made : (used : UsedKey) (tables : Tables) → used_said account q tables ≡ Some (Some used) → made tables ≡ []
  nothing_made used tables says = ap (λ (o : Option (Option UsedKey)). batches_by (key_said o) (batches tables)) says

  none_chosen : (found : Option LedgerFault) (bs : List (List Change)) → bs ≡ [] → (if is_some found then [] else bs) ≡ []
  none_chosen None bs is = is
  none_chosen (Some fault) bs is = refl

  abbrev reply_if : UsedKey → Bool → Result ℕ LedgerFault
  reply_if used same = if same then Ok used.at else Err (KeyReused used.message)

  abbrev refusal_if : UsedKey → Bool → Option LedgerFault
  refusal_if used same = if same then None else Some (KeyReused used.message)

  kept_if : (used : UsedKey) (before after : Known) → Reads 1 (used_said account q) (used_refusal account q) LacksForm (Ok (Some used)) before after → (same : Bool) → same ≡ same_id message used.message → Once (reply_if used same) before after
  kept_if used before after r true is = record {
    leaves = call_leaves commits [] done before after after r.leaves (no_more after) (told_on _ _ before.tables after.tables (λ tables ok. sym (none_chosen (whole tables) (made tables) (nothing_made used tables ok.1))) r.reply);
    reply = told_on _ _ before.tables after.tables (λ tables ok. (used_whole used tables ok.0 ok.1 ∙ ap (refusal_if used) (sym is), answer_kept used tables ok.1)) r.reply;
    cause = tt;
    looked = few_looks 1 (1 + n) through before after (omega arith) r.looked;
  }
    where
      no_more : (known : Known) → Leaves [] done known known
      no_more known = not_asked done [] known (λ e. absurd cc) (λ e. refl)
  kept_if used before after r false is = record {
    leaves = reads_leave commits refused before after (λ e. absurd cc) (read_and refused before after (λ e. absurd cc) r.leaves);
    reply = told_on _ _ before.tables after.tables (λ tables ok. used_whole used tables ok.0 ok.1 ∙ ap (refusal_if used) (sym is)) r.reply;
    cause = tt;
    looked = few_looks 1 (1 + n) through before after (omega arith) r.looked;
  }

  pub key_kept : (used : UsedKey) (before after : Known) → Reads 1 (used_said account q) (used_refusal account q) LacksForm (Ok (Some used)) before after → Once (kept_reply used message) before after
  key_kept used before after r = kept_if used before after r (same_id message used.message) refl

  -- where the key has signed none
  new_whole : (tables : Tables) → used_refusal account q tables ≡ None → used_said account q tables ≡ Some None → whole tables ≡ refusal tables
  new_whole tables formed says = (λ i. option_or (option_map Store (formed i)) (by_key message (key_said (says i)) (refusal tables)))

  new_commits : (tables : Tables) → used_refusal account q tables ≡ None → used_said account q tables ≡ Some None → commits tables ≡ commits_unless refusal batches tables
  new_commits tables formed says =
      (λ i. if is_some (new_whole tables formed says i) then [] else batches_by (key_said (says i)) (batches tables))

  module _ (before mid after : Known) (r : Reads 1 (used_said account q) (used_refusal account q) LacksForm (Ok None) before mid) where
    leaves_then : (how : Ended) → LeavesBy (commits_unless refusal batches) how mid after → LeavesBy commits how before after
    leaves_then how l = record {
      batches = l.batches;
      made = told_both _ _ _ before.tables mid.tables after.tables (look_keeps before mid r.leaves) (was_told l.batches how mid after l.leaves) (λ tables ok is. is ∙ sym (new_commits tables ok.0 ok.1)) r.reply l.made;
      leaves = then_any l.batches how before mid after r.leaves l.leaves;
    }

    pub new_refused : (fault : LedgerFault) → ByRows {A = Unit {0}} n through refusal batches (λ tables done. Unit {0}) (Err fault) mid after → Once (Err fault) before after
    new_refused fault b = record {
      leaves = leaves_then (of_ledger_fault fault) b.leaves;
      reply = told_both _ _ _ before.tables mid.tables after.tables (look_keeps before mid r.leaves) (was_told b.leaves.batches (of_ledger_fault fault) mid after b.leaves.leaves)
          (λ tables ok is. subst (λ (o : Option LedgerFault). IsRefusal (of_ledger_fault fault) o fault) (sym (new_whole tables ok.0 ok.1)) is) r.reply b.reply;
      cause = b.cause;
      looked = looks_first 1 n through before mid after (look_keeps before mid r.leaves) (was_told b.leaves.batches (of_ledger_fault fault) mid after b.leaves.leaves) r.looked b.looked;
    }

    pub new_done : (u : Unit {0}) → ByRows n through refusal batches (λ tables done. Unit {0}) (Ok u) mid after → Once (Ok number) before after
    new_done u b = record {
      leaves = leaves_then done b.leaves;
      reply = told_both _ _ _ before.tables mid.tables after.tables (look_keeps before mid r.leaves) (was_told b.leaves.batches done mid after b.leaves.leaves)
          (λ tables ok is. (new_whole tables ok.0 ok.1 ∙ is.0, sym (ap (λ (o : Option (Option UsedKey)). number_by (key_said o) number) ok.1))) r.reply b.reply;
      cause = tt;
      looked = looks_first 1 n through before mid after (look_keeps before mid r.leaves) (was_told b.leaves.batches done mid after b.leaves.leaves) r.looked b.looked;
    }
