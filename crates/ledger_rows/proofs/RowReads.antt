-- What reading rows answers and leaves.
use Rattle.std.proofs.Common.{◌≡◌, ℕ, ◌+◌, List, [], Option, Some, None, IfSome, IsSome, Ok, Err, refl, sym, ap, subst, ◌∙◌, arith}
use Rattle.std.specs.Option.{option_map, option_or}
use Rattle.std.specs.FinMap.{get}
use Rattle.keeper_core.specs.declared.row.Row.{Row}
use Rattle.keeper_core.specs.declared.store_fault.StoreFault.{StoreFault}
use Rattle.keeper_core.specs.Tables.{Tables}
use Rattle.keeper_core.specs.Keeping.{AnswersByMap}
use Rattle.keeper_core.specs.Knowing.{Known, LooksAtMost}
use Rattle.keeper_core.specs.Leaving.{Ended, done, failed, starved, refused, of_store_fault, KeepsTold, Leaves}
use Rattle.keeper_core.specs.Stepping.{IsRefusal}
use Rattle.keeper_core.specs.StoreFaults.{bad_row_of}
use Rattle.keeper_core.proofs.Leaving.{applies_same, is_told, not_told, if_some, read_and, then_read, then_any}
use Rattle.keeper_core.proofs.Stepping.{was_told}
use Rattle.ledger_rows.specs.RowReading.{row_of, form_refusal, Reads, ReadsRow, pair_of, both_said, either_refusal}

-- what holds of the map after a look holds of the map before it
pub where_told : (P : Tables → Type 0) (before after : Option Tables) → KeepsTold before after → IfSome after P → IfSome after (λ _. IfSome before P)
where_told P before None keeps holds = tt
where_told P None (Some later) keeps holds = absurd (not_told later keeps)
where_told P (Some tables) (Some later) keeps holds = subst P (is_told later tables keeps) holds

-- a look changes no map
pub look_keeps : (before after : Known) → Leaves [] done before after → KeepsTold before.tables after.tables
look_keeps before after l = applies_same before.tables after.tables l.applies

-- A row that stands for nothing is named.
pub lacks_form : {V : Type 0} (value_of : List ℕ → Option V) (tab : ℕ) (key val : List ℕ) (before after : Known) → value_of val ≡ None → AnswersByMap after.tables tab key (Some val) → Leaves [] done before after → LooksAtMost 1 before after →
    ReadsRow value_of tab key (Err (bad_row_of tab key)) before after
lacks_form {V} value_of tab key val before after nothing stands look looked =
    let is_refusal : Option (List ℕ) → Type 0 = λ row. form_refusal tab key (row_of value_of row) ≡ Some (bad_row_of tab key) in
    let none : is_refusal (Some val) = ap (λ (o : Option V). form_refusal tab key (option_map Some o)) nothing in
    record {
      reply = where_told (λ tables. is_refusal (get tables (tab, key))) before.tables after.tables (look_keeps before after look)
          (if_some after.tables _ _ (λ tables is. subst is_refusal is none) stands);
      cause = record {
        row = record { key = key; val = val };
        named = refl;
        lacks = record { of = refl; at = refl; nothing = nothing };
        stands = if_some after.tables _ _ (λ tables is. sym is) stands;
      };
      leaves = read_and refused before after (λ e. absurd cc) look;
      looked = looked;
    }

-- ---- one reading behind another

pub told_both : (P Q R : Tables → Type 0) (before mid after : Option Tables) → KeepsTold before mid → IfSome after (λ _. IsSome mid) → ((tables : Tables) → P tables → Q tables → R tables) →
    IfSome mid (λ _. IfSome before P) → IfSome after (λ _. IfSome mid Q) → IfSome after (λ _. IfSome before R)
told_both P Q R before mid None keeps told both p q = tt
told_both P Q R before None (Some later) keeps told both p q = absurd cc
told_both P Q R None (Some middle) (Some later) keeps told both p q = tt
told_both P Q R (Some tables) (Some middle) (Some later) keeps told both p q = both tables p (subst Q (is_told middle tables keeps) q)

pub told_one : (P R : Tables → Type 0) (before after : Option Tables) → ((tables : Tables) → P tables → R tables) → IfSome after (λ _. IfSome before P) → IfSome after (λ _. IfSome before R)
told_one P R before None on p = tt
told_one P R None (Some later) on p = tt
told_one P R (Some tables) (Some later) on p = on tables p

-- the first fault of two
pub first_refused : (how : Ended) (one other : Option StoreFault) (fault : StoreFault) → IsRefusal how one fault → IsRefusal how (option_or one other) fault
first_refused done one other fault is = is
first_refused failed one other fault is = tt
first_refused starved one other fault is = tt
first_refused refused one other fault is = ap (λ (o : Option StoreFault). option_or o other) is

pub second_refused : (how : Ended) (one other : Option StoreFault) (fault : StoreFault) → one ≡ None → IsRefusal how other fault → IsRefusal how (option_or one other) fault
second_refused how one other fault none is = subst (λ (o : Option StoreFault). IsRefusal how (option_or o other) fault) (sym none) is

module _ {A B : Type 0} (m n : ℕ) (said : Tables → Option A) (said' : Tables → Option B) (refusal refusal' : Tables → Option StoreFault) (L : ℕ → Row → Type 0) where
  pub first_reads : (fault : StoreFault) (before after : Known) → Reads m said refusal L (Err fault) before after → Reads (m + n) (both_said said said') (either_refusal refusal refusal') L (Err fault) before after
  first_reads fault before after r = record {
    reply = told_one _ _ before.tables after.tables (λ tables is. first_refused (of_store_fault fault) (refusal tables) (refusal' tables) fault is) r.reply;
    cause = r.cause;
    leaves = r.leaves;
    looked = (r.looked.0, omega (arith, r.looked.1));
  }

  pub second_reads : (x : A) (fault : StoreFault) (before mid after : Known) → Reads m said refusal L (Ok x) before mid → Reads n said' refusal' L (Err fault) mid after →
      Reads (m + n) (both_said said said') (either_refusal refusal refusal') L (Err fault) before after
  second_reads x fault before mid after r s = record {
    reply = told_both _ _ _ before.tables mid.tables after.tables (look_keeps before mid r.leaves) (was_told [] (of_store_fault fault) mid after s.leaves)
        (λ tables ok is. second_refused (of_store_fault fault) (refusal tables) (refusal' tables) fault ok.0 is) r.reply s.reply;
    cause = s.cause;
    leaves = then_any [] (of_store_fault fault) before mid after r.leaves s.leaves;
    looked = (omega (arith, r.looked.0, s.looked.0), omega (arith, r.looked.1, s.looked.1));
  }

  pub both_read : (x : A) (y : B) (before mid after : Known) → Reads m said refusal L (Ok x) before mid → Reads n said' refusal' L (Ok y) mid after →
      Reads (m + n) (both_said said said') (either_refusal refusal refusal') L (Ok (x, y)) before after
  both_read x y before mid after r s = record {
    reply = told_both _ _ _ before.tables mid.tables after.tables (look_keeps before mid r.leaves) (was_told [] done mid after s.leaves)
        (λ tables ok ok'. (ap (λ (o : Option StoreFault). option_or o (refusal' tables)) ok.0 ∙ ok'.0, pair_said (said tables) (said' tables) ok.1 ok'.1)) r.reply s.reply;
    cause = tt;
    leaves = then_read [] before mid after r.leaves s.leaves;
    looked = (omega (arith, r.looked.0, s.looked.0), omega (arith, r.looked.1, s.looked.1));
  }
    where
      pair_said : (one : Option A) (other : Option B) → one ≡ Some x → other ≡ Some y → pair_of one other ≡ Some (x, y)
      pair_said one other is is' = (λ i. pair_of (is i) (is' i))
