-- A settlement by the rows: what each of its endings answers and leaves.
use Rattle.std.proofs.Common.{◌≡◌, ℕ, List, [], ◌∷◌, Option, Some, None, is_some, if◌then◌else◌, Ok, Err, refl, sym, ap, subst, inr, ◌∙◌}
use Rattle.std.specs.List.{slice_get}
use Rattle.std.specs.Option.{option_map, option_and_then, option_or}
use Rattle.sha2.specs.Sha256.{sha256}
use Rattle.dh_base.specs.declared.id.Id.{Id}
use Rattle.dh_base.specs.declared.outcome.Outcome.{Outcome}
use Rattle.escrow_book.specs.declared.part_fault.PartFault.{PartFault}
use Rattle.escrow_book.specs.declared.part_fault.PartFault.TheVariants as part
use Rattle.escrow_book.specs.declared.row.BookRow.{BookRow}
use Rattle.escrow_book.specs.PartRows.{no_rows, first_fault}
use Rattle.keeper_core.specs.declared.change.Change.{Change}
use Rattle.keeper_core.specs.declared.keep_fault.KeepFault.{KeepFault}
use Rattle.keeper_core.specs.declared.keep_fault.KeepFault.TheVariants as keep
use Rattle.keeper_core.specs.declared.store_fault.StoreFault.{StoreFault}
use Rattle.keeper_core.specs.declared.store_fault.StoreFault.TheVariants as store
use Rattle.keeper_core.specs.StoreFaults.{HasCause, store_fault_of}
use Rattle.keeper_core.specs.Tables.{Tables}
use Rattle.keeper_core.specs.Knowing.{Known, LooksAtMost}
use Rattle.keeper_core.specs.Leaving.{Ended, done, failed, of_store_fault, of_keep_fault, Leaves}
use Rattle.keeper_core.specs.Stepping.{LeavesBy, IsRefusal, commits_unless}
use Rattle.keeper_core.proofs.Leaving.{read_and, handed_on}
use Rattle.keeper_core.proofs.Stepping.{was_told, reads_leave, call_leaves}
use Rattle.ledger_rows.specs.declared.registration.Registration.{Registration}
use Rattle.ledger_rows.specs.RowReading.{LacksForm}
use Rattle.ledger_rows.proofs.RowReads.{first_refused}
use Rattle.ledger_acts.specs.ByRows.{cell_of_row, place_of, FitsNoPart, batches_of}
use Rattle.ledger_acts.proofs.Answering.{store_not_done, read_cause, keeper_cause, told_always, told_on, told_later}
use Rattle.ledger_claims.specs.declared.payees.Payee.{Payee}
use Rattle.ledger_claims.specs.ByTables.{StoreCause}
use Rattle.ledger_claims.specs.Payees.{IsRowFault, payees_at, payees_form, beside_twice}
use Rattle.ledger_claims.specs.Settling.{part_rows, naming, misfit_of, part_refusal, settling_changes, settling_refusal, settling_batches, SettlesByRows}
use Rattle.ledger_claims.proofs.PayeesRead.{PayeesAsked}

-- ---- a row that fits no part

some_fault : (one other : StoreFault) → Some one ≡ Some other → one ≡ other
some_fault one other e = cc

named : (rows : List BookRow) (place : ℕ) (o : Option BookRow) (tab : ℕ) (key : Id) → slice_get rows place ≡ o → option_and_then place_of (first_fault no_rows 0 rows) ≡ Some place → naming o ≡ store.BadRow tab key → FitsNoPart tab key
named rows place None tab key there first is = absurd cc
named rows place (Some row) tab key there first is =
    let digest : Id = record { 0 = sha256 (cell_of_row row).1 } in
    let fault : store.BadRow (cell_of_row row).0 digest ≡ store.BadRow tab key = is in
    let same_key : digest ≡ key = (let h = fault in cc) in
    record {
      rows = rows;
      place = place;
      row = row;
      first = first;
      there = there;
      of = (let h = fault in cc);
      named = sym (ap (λ (d : Id). d.0) same_key);
    }

pub misfit_named : (rows : List BookRow) (tab : ℕ) (key : Id) → part_refusal rows ≡ Some (store.BadRow tab key) → FitsNoPart tab key
misfit_named rows tab key is = go (first_fault no_rows 0 rows) refl is
  where
    go : (o : Option PartFault) → first_fault no_rows 0 rows ≡ o → option_map (misfit_of rows) o ≡ Some (store.BadRow tab key) → FitsNoPart tab key
    go None e is = absurd cc
    go (Some (part.BadRows place)) e is = named rows place (slice_get rows place) tab key refl (ap (option_and_then place_of) e) (some_fault _ _ is)
    go (Some (part.SumTooLarge place)) e is = named rows place (slice_get rows place) tab key refl (ap (option_and_then place_of) e) (some_fault _ _ is)
    go (Some part.NoMemory) e is = absurd cc

by_rule : (refusal : Option StoreFault) (fault : StoreFault) → IsRowFault refusal fault → IsRefusal (of_store_fault fault) refusal fault × (of_store_fault fault ≡ failed → ⊥)
by_rule refusal store.Keeper is = absurd is
by_rule refusal (store.BadRow tab key) is = (is, λ e. absurd cc)
by_rule refusal store.NoMemory is = (tt, λ e. absurd cc)

rule_cause : (told : Option Tables) (refusal : Option StoreFault) (fault : StoreFault) → ((tab : ℕ) (key : Id) → refusal ≡ Some (store.BadRow tab key) → FitsNoPart tab key) → IsRowFault refusal fault → StoreCause told fault
rule_cause told refusal store.Keeper caused is = tt
rule_cause told refusal (store.BadRow tab key) caused is = inr (caused tab key is)
rule_cause told refusal store.NoMemory caused is = tt

-- ---- the call

module _ (number : ℕ) (deal : Id) (found : Registration) (outcome : Outcome) where
  abbrev refusal : Tables → Option StoreFault
  refusal = settling_refusal deal found

  abbrev batches : Tables → List (List Change)
  batches = settling_batches number deal found outcome

  abbrev commits : Tables → List (List Change)
  commits = commits_unless refusal batches

  abbrev rows_for : List Payee → List BookRow
  rows_for payees = part_rows deal found.text payees

  abbrev rest_of : Option (List Payee) → Option StoreFault
  rest_of said = option_and_then (λ payees. part_refusal (rows_for payees)) said

  -- the payees are not read
  pub payees_unread : (fault : StoreFault) (before after : Known) → PayeesAsked deal (Err fault) before after → HasCause LacksForm after.tables fault → SettlesByRows number deal found outcome (Err fault) before after
  payees_unread fault before after asked cause = record {
    leaves = reads_leave commits (of_store_fault fault) before after (store_not_done fault) asked.leaves;
    reply = told_on _ _ before.tables after.tables (λ tables is. first_refused (of_store_fault fault) (payees_form deal tables) (rest_of (payees_at deal tables)) fault is) asked.reply;
    cause = read_cause after.tables fault cause;
    looked = asked.looked;
  }

  -- by what was read
  by_payees : (payees : List Payee) (tables : Tables) → payees_form deal tables ≡ None → payees_at deal tables ≡ Some payees →
      (refusal tables ≡ part_refusal (rows_for payees)) × (batches tables ≡ settling_changes number deal found outcome payees ∷ [])
  by_payees payees tables formed says = (
    λ i. option_or (formed i) (rest_of (says i)),
    λ i. batches_of (option_map (settling_changes number deal found outcome) (says i)),
  )

  pub settling_refused : (payees : List Payee) (fault : StoreFault) (before after : Known) → PayeesAsked deal (Ok payees) before after → IsRowFault (part_refusal (rows_for payees)) fault → SettlesByRows number deal found outcome (Err fault) before after
  settling_refused payees fault before after asked by =
      let rule = by_rule (part_refusal (rows_for payees)) fault by in
      record {
        leaves = reads_leave commits (of_store_fault fault) before after (store_not_done fault) (read_and (of_store_fault fault) before after rule.1 asked.leaves);
        reply = told_on _ _ before.tables after.tables (λ tables ok. subst (λ (o : Option StoreFault). IsRefusal (of_store_fault fault) o fault) (sym (by_payees payees tables ok.0 ok.1).0) rule.0) asked.reply;
        cause = rule_cause after.tables (part_refusal (rows_for payees)) fault (misfit_named (rows_for payees)) by;
        looked = asked.looked;
      }

  committed : (payees : List Payee) (batch : List Change) (tables : Tables) → part_refusal (rows_for payees) ≡ None → batch ≡ settling_changes number deal found outcome payees → payees_form deal tables ≡ None → payees_at deal tables ≡ Some payees → batch ∷ [] ≡ commits tables
  committed payees batch tables none made formed says =
      let by = by_payees payees tables formed says in
      ap (λ (c : List Change). c ∷ []) made ∙ sym by.1 ∙ sym (ap (λ (o : Option StoreFault). if is_some o then [] else batches tables) (by.0 ∙ none))

  module _ (payees : List Payee) (batch : List Change) (before mid after : Known) (asked : PayeesAsked deal (Ok payees) before mid) (none : part_refusal (rows_for payees) ≡ None) (made : batch ≡ settling_changes number deal found outcome payees) where
    left : (how : Ended) → Leaves (batch ∷ []) how mid after → LeavesBy commits how before after
    left how l = call_leaves commits (batch ∷ []) how before mid after asked.leaves l (told_on _ _ before.tables mid.tables (λ tables ok. committed payees batch tables none made ok.0 ok.1) asked.reply)

    -- as many rows are looked up behind the commit
    still_looked : (how : Ended) → Leaves (batch ∷ []) how mid after → after.looked ≡ mid.looked → (tables : Tables) → LooksAtMost (beside_twice 1 tables) before mid → LooksAtMost (beside_twice 1 tables) before after
    still_looked how l same tables within = subst (λ (n : ℕ). LooksAtMost (beside_twice 1 tables) before (record after { looked = n })) (sym same) within

    pub is_settled : Leaves (batch ∷ []) done mid after → after.looked ≡ mid.looked → SettlesByRows number deal found outcome (Ok tt) before after
    is_settled l same = record {
      leaves = left done l;
      reply = told_later _ before.tables mid.tables after.tables (was_told (batch ∷ []) done mid after l) (told_on _ _ before.tables mid.tables (λ tables ok. ((by_payees payees tables ok.0 ok.1).0 ∙ none, tt)) asked.reply);
      cause = tt;
      looked = told_later _ before.tables mid.tables after.tables (was_told (batch ∷ []) done mid after l) (told_on _ _ before.tables mid.tables (still_looked done l same) asked.looked);
    }

    pub not_kept : (fault : KeepFault) → Leaves (batch ∷ []) (of_keep_fault fault) mid after → after.looked ≡ mid.looked → SettlesByRows number deal found outcome (Err (store_fault_of fault)) before after
    not_kept fault l same = record {
      leaves = subst (λ (how : Ended). LeavesBy commits how before after) (sym (handed_on fault)) (left (of_keep_fault fault) l);
      reply = told_always _ before.tables after.tables (λ tables. any_refusal fault tables);
      cause = keeper_cause after.tables fault;
      looked = told_later _ before.tables mid.tables after.tables (was_told (batch ∷ []) (of_keep_fault fault) mid after l) (told_on _ _ before.tables mid.tables (still_looked (of_keep_fault fault) l same) asked.looked);
    }
      where
        any_refusal : (f : KeepFault) (tables : Tables) → IsRefusal (of_store_fault (store_fault_of f)) (refusal tables) (store_fault_of f)
        any_refusal keep.Failed tables = tt
        any_refusal keep.NoMemory tables = tt
