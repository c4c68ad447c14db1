-- Reading who is paid by a settlement: what each ending answers and leaves.
use Rattle.std.proofs.Common.{◌≡◌, ℕ, ◌+◌, ◌≤◌, ◌<◌, Bool, true, false, if◌then◌else◌, List, [], ◌∷◌, ◌++◌, length, Option, Some, None, IfErr, IfSome, MatchResult, Result, Ok, Err, refl, sym, ap, subst, ◌∙◌, append_assoc, append-nil, arith}
use Rattle.std.specs.Option.{option_map, option_or}
use Rattle.dh_base.specs.declared.id.Id.{Id}
use Rattle.dh_base.specs.Ids.{same_id}
use Rattle.escrow_book.specs.declared.row.HoldRow.{HoldRow}
use Rattle.keeper_core.specs.declared.row.Row.{Row}
use Rattle.keeper_core.specs.declared.store_fault.StoreFault.{StoreFault}
use Rattle.keeper_core.specs.declared.store_fault.StoreFault.TheVariants as store
use Rattle.keeper_core.specs.Keeping.{ListsTable}
use Rattle.keeper_core.specs.Knowing.{Known, LooksAtMost}
use Rattle.keeper_core.specs.Leaving.{done, starved, of_store_fault, ended, Leaves}
use Rattle.keeper_core.specs.Stepping.{WhereTold, IsReply, IsRefusal}
use Rattle.keeper_core.specs.StoreFaults.{HasCause}
use Rattle.keeper_core.specs.Tables.{Tables, rows_of}
use Rattle.keeper_core.proofs.Leaving.{if_some, read_and, not_asked, then_read, then_any}
use Rattle.keeper_core.proofs.Stepping.{was_told}
use Rattle.ledger_rows.specs.Asking.{Asks}
use Rattle.ledger_rows.specs.RowKeys.{hold_tab}
use Rattle.ledger_rows.specs.RowReading.{Reads, LacksForm, pair_of, free_said, free_refusal}
use Rattle.ledger_rows.specs.Scanning.{rows_in, first_unformed, rows_refusal, scan_refusal}
use Rattle.ledger_rows.proofs.RowReads.{where_told, look_keeps, told_both, told_one, first_refused, second_refused}
use Rattle.ledger_rows.proofs.ScanReads.{asks_on, asks_refused, scan_done, scan_unformed}
use Rattle.ledger_acts.proofs.Answering.{told_always}
use Rattle.ledger_claims.specs.declared.payees.Payee.{Payee}
use Rattle.ledger_claims.specs.Payees.{IsRowFault, owned_in, with_owned, owned_of, owned_at, payee, payee_before, payees_said, payees_refusal, payees_at, payees_form, beside_twice}

-- ---- the rows of holds

abbrev pub OwnedAsked : Id → Result (List HoldRow) StoreFault → Known → Known → Type 0
OwnedAsked deal result before after = Asks of_store_fault (rows_in hold_tab) (scan_refusal hold_tab) (λ tables owned. owned ≡ owned_at deal tables) result before after

module _ (deal : Id) (rows : List Row) (before after : Known) (lists : ListsTable after.tables hold_tab rows) (looks : Leaves [] done before after) (looked : LooksAtMost (1 + length rows) before after) where
  abbrev Among : Result (List HoldRow) StoreFault → Type 0
  Among result = MatchResult result (λ owned. (first_unformed hold_tab rows ≡ None) × (owned ≡ owned_of deal rows)) (IsRowFault (rows_refusal hold_tab rows))

  abbrev Scanned : Result (List HoldRow) StoreFault → Type 0
  Scanned result = OwnedAsked deal result before after × IfErr result (HasCause LacksForm after.tables)

  pub owned_scanned : (result : Result (List HoldRow) StoreFault) → Among result → Scanned result
  owned_scanned (Ok owned) among = (
    asks_on of_store_fault (rows_in hold_tab) (scan_refusal hold_tab) (λ tables answer. answer ≡ rows_of hold_tab tables) (λ tables found. found ≡ owned_at deal tables) rows owned before after
        (λ tables same. among.1 ∙ ap (owned_of deal) same) (scan_done hold_tab rows before after lists looks looked among.0),
    tt,
  )
  owned_scanned (Err store.Keeper) among = absurd among
  owned_scanned (Err (store.BadRow tab key)) among =
      let unformed = scan_unformed hold_tab rows before after lists looks looked (store.BadRow tab key) among in (
        asks_refused of_store_fault (rows_in hold_tab) (scan_refusal hold_tab) (λ tables answer. answer ≡ rows_of hold_tab tables) (λ tables found. found ≡ owned_at deal tables) (store.BadRow tab key) before after unformed.0,
        unformed.1,
      )
  owned_scanned (Err store.NoMemory) among = (
    record {
      reply = told_always _ before.tables after.tables (λ tables. tt);
      leaves = read_and starved before after (λ e. absurd cc) looks;
      looked = where_told (λ tables. LooksAtMost (1 + length (rows_of hold_tab tables)) before after) before.tables after.tables (look_keeps before after looks)
          (if_some after.tables _ _ (λ tables is. subst (λ (rs : List Row). LooksAtMost (1 + length rs) before after) is looked) lists);
    },
    tt,
  )

-- no more owners than rows
few_owned : (deal : Id) (rows : List Row) → length (owned_of deal rows) ≤ length rows
few_owned deal [] = omega arith
few_owned deal (row ∷ rows) = go (owned_in row) (few_owned deal rows)
  where
    go : (o : Option HoldRow) → length (owned_of deal rows) ≤ length rows → length (with_owned deal o (owned_of deal rows)) ≤ length (row ∷ rows)
    go None few = omega arith
    go (Some hold) few = at (same_id hold.deal deal)
      where
        at : (same : Bool) → length (if same then hold ∷ owned_of deal rows else owned_of deal rows) ≤ length (row ∷ rows)
        at true = omega arith
        at false = omega arith

-- ---- the free amounts

-- what is read so far, where the rest is still to be read
pub record ReadSoFar (owned rest : List HoldRow) (payees : List Payee) (count : ℕ) (before now : Known) : Type 0 where
  pub leaves : Leaves [] done before now
  pub looked : LooksAtMost count before now
  pub told : WhereTold before now (λ tables. (payees_refusal owned tables ≡ payees_refusal rest tables)
      × (payees_said owned tables ≡ option_map (λ (more : List Payee). payees ++ more) (payees_said rest tables)))

nothing_before : (o : Option (List Payee)) → o ≡ option_map (λ (more : List Payee). [] ++ more) o
nothing_before None = refl
nothing_before (Some more) = refl

pub none_read : (owned : List HoldRow) (known : Known) → ReadSoFar owned owned [] 0 known known
none_read owned known = record {
  leaves = not_asked done [] known (λ e. absurd cc) (λ e. refl);
  looked = (omega arith, omega arith);
  told = told_always _ known.tables known.tables (λ tables. (refl, nothing_before (payees_said owned tables)));
}

said_more : (hold : HoldRow) (free : ℕ) (payees : List Payee) (o : Option (List Payee)) →
    option_map (λ (more : List Payee). payees ++ more) (option_map (payee_before hold) (pair_of (Some free) o)) ≡ option_map (λ (more : List Payee). (payees ++ payee hold free ∷ []) ++ more) o
said_more hold free payees None = refl
said_more hold free payees (Some more) = ap (λ (l : List Payee). Some l) (sym (append_assoc payees (payee hold free ∷ []) more))

module _ (owned : List HoldRow) (hold : HoldRow) (rest : List HoldRow) (payees : List Payee) (count : ℕ) (before mid after : Known) (so_far : ReadSoFar owned (hold ∷ rest) payees count before mid) where
  pub one_read : (free : ℕ) → Reads 1 (free_said hold.account hold.asset) (free_refusal hold.account hold.asset) LacksForm (Ok free) mid after → ReadSoFar owned rest (payees ++ payee hold free ∷ []) (count + 1) before after
  one_read free r = record {
    leaves = then_read [] before mid after so_far.leaves r.leaves;
    looked = (omega (arith, so_far.looked.0, r.looked.0), omega (arith, so_far.looked.1, r.looked.1));
    told = told_both _ _ _ before.tables mid.tables after.tables (look_keeps before mid so_far.leaves) (was_told [] done mid after r.leaves)
        (λ tables old ok. (
          old.0 ∙ ap (λ (o : Option StoreFault). option_or o (payees_refusal rest tables)) ok.0,
          old.1 ∙ (λ i. option_map (λ (more : List Payee). payees ++ more) (option_map (payee_before hold) (pair_of (ok.1 i) (payees_said rest tables)))) ∙ said_more hold free payees (payees_said rest tables),
        )) so_far.told r.reply;
  }

  pub one_unread : (fault : StoreFault) → count < length owned → Reads 1 (free_said hold.account hold.asset) (free_refusal hold.account hold.asset) LacksForm (Err fault) mid after →
      Reads (length owned) (payees_said owned) (payees_refusal owned) LacksForm (Err fault) before after
  one_unread fault few r = record {
    reply = told_both _ _ _ before.tables mid.tables after.tables (look_keeps before mid so_far.leaves) (was_told [] (of_store_fault fault) mid after r.leaves)
        (λ tables old is. subst (λ (o : Option StoreFault). IsRefusal (of_store_fault fault) o fault) (sym old.0) (first_refused (of_store_fault fault) (free_refusal hold.account hold.asset tables) (payees_refusal rest tables) fault is)) so_far.told r.reply;
    cause = r.cause;
    leaves = then_any [] (of_store_fault fault) before mid after so_far.leaves r.leaves;
    looked = (omega (arith, so_far.looked.0, r.looked.0), omega (arith, so_far.looked.1, r.looked.1));
  }

module _ (owned rest : List HoldRow) (payees : List Payee) (count : ℕ) (before now : Known) (so_far : ReadSoFar owned rest payees count before now) (few : count ≤ length owned) where
  pub read_starved : Reads (length owned) (payees_said owned) (payees_refusal owned) LacksForm (Err store.NoMemory) before now
  read_starved = record {
    reply = told_always _ before.tables now.tables (λ tables. tt);
    cause = tt;
    leaves = read_and starved before now (λ e. absurd cc) so_far.leaves;
    looked = (so_far.looked.0, omega (arith, so_far.looked.1, few));
  }

  pub all_read : rest ≡ [] → Reads (length owned) (payees_said owned) (payees_refusal owned) LacksForm (Ok payees) before now
  all_read none = record {
    reply = told_one _ _ before.tables now.tables
        (λ tables old. (
          old.0 ∙ ap (λ (holds : List HoldRow). payees_refusal holds tables) none,
          old.1 ∙ ap (λ (holds : List HoldRow). option_map (λ (more : List Payee). payees ++ more) (payees_said holds tables)) none ∙ ap (λ (l : List Payee). Some l) (append-nil payees),
        )) so_far.told;
    cause = tt;
    leaves = so_far.leaves;
    looked = (so_far.looked.0, omega (arith, so_far.looked.1, few));
  }

-- ---- the rows of holds, and then the free amounts

told_pair : (P Q : Tables → Type 0) (before after : Option Tables) → IfSome after (λ _. IfSome before P) → IfSome after (λ _. IfSome before Q) → IfSome after (λ _. IfSome before (λ tables. P tables × Q tables))
told_pair P Q before None p q = tt
told_pair P Q None (Some later) p q = tt
told_pair P Q (Some tables) (Some later) p q = (p, q)

abbrev pub PayeesAsked : Id → Result (List Payee) StoreFault → Known → Known → Type 0
PayeesAsked deal result before after = Asks of_store_fault (beside_twice 1) (payees_form deal) (λ tables payees. payees_at deal tables ≡ Some payees) result before after

module _ (deal : Id) where
  pub owned_unread : (fault : StoreFault) (before after : Known) → OwnedAsked deal (Err fault) before after → PayeesAsked deal (Err fault) before after
  owned_unread fault before after asked = record {
    reply = told_one _ _ before.tables after.tables (λ tables is. first_refused (of_store_fault fault) (scan_refusal hold_tab tables) (payees_refusal (owned_at deal tables) tables) fault is) asked.reply;
    leaves = asked.leaves;
    looked = told_one _ _ before.tables after.tables (λ tables within. (within.0, omega (arith, within.1))) asked.looked;
  }

  module _ (owned : List HoldRow) (before mid after : Known) (asked : OwnedAsked deal (Ok owned) before mid) where
    payees_replied : (result : Result (List Payee) StoreFault) (tables : Tables) → scan_refusal hold_tab tables ≡ None → owned ≡ owned_at deal tables →
        IsReply of_store_fault (payees_refusal owned tables) (λ answer. payees_said owned tables ≡ Some answer) result → IsReply of_store_fault (payees_form deal tables) (λ payees. payees_at deal tables ≡ Some payees) result
    payees_replied (Ok payees) tables formed is reply = (
      (λ i. option_or (formed i) (payees_refusal (sym is i) tables)) ∙ reply.0,
      (λ i. payees_said (sym is i) tables) ∙ reply.1,
    )
    payees_replied (Err fault) tables formed is reply =
        second_refused (of_store_fault fault) (scan_refusal hold_tab tables) (payees_refusal (owned_at deal tables) tables) fault formed (subst (λ (holds : List HoldRow). IsRefusal (of_store_fault fault) (payees_refusal holds tables) fault) is reply)

    pub payees_asked : (result : Result (List Payee) StoreFault) → Reads (length owned) (payees_said owned) (payees_refusal owned) LacksForm result mid after → PayeesAsked deal result before after
    payees_asked result r =
        let keeps = look_keeps before mid asked.leaves in
        let told = was_told [] (ended of_store_fault result) mid after r.leaves in
        record {
          reply = told_both _ _ _ before.tables mid.tables after.tables keeps told (λ tables ok is. payees_replied result tables ok.0 ok.1 is) asked.reply r.reply;
          leaves = then_any [] (ended of_store_fault result) before mid after asked.leaves r.leaves;
          looked = told_both _ _ _ before.tables mid.tables after.tables keeps told
              (λ tables both within. (
                omega (arith, both.1.0, within.0),
                omega (arith, both.1.1, within.1, few_owned deal (rows_of hold_tab tables), ap (λ (holds : List HoldRow). length holds) both.0.1),
              ))
              (told_pair (λ tables. (scan_refusal hold_tab tables ≡ None) × (owned ≡ owned_at deal tables)) (λ tables. LooksAtMost (rows_in hold_tab tables) before mid) before.tables mid.tables asked.reply asked.looked)
              (told_always (λ tables. LooksAtMost (length owned) mid after) mid.tables after.tables (λ tables. r.looked));
        }
