-- A call that is answered by tables is answered by the history that they stand for.
use Rattle.std.proofs.Common.{◌≡◌, ℕ, ◌≤◌, List, [], Option, Some, None, IfSome, IsSome, Result, Ok, Err, sym, subst, ◌∙◌, arith}
use Rattle.keeper_core.specs.Tables.{Tables}
use Rattle.keeper_core.specs.Knowing.{Known}
use Rattle.keeper_core.specs.Leaving.{Ended, done, failed, starved, refused, ended, KeepsTold, Leaves, Halts}
use Rattle.keeper_core.specs.Stepping.{IsReply, IsRefusal, Backs}
use Rattle.keeper_core.proofs.Leaving.{applies_same, none_made, is_told, not_told}
use Rattle.keeper_core.proofs.Stepping.{was_told}
use Rattle.ledger_rows.specs.declared.entry.Entry.{Entry}
use Rattle.ledger_rows.specs.Asking.{Asks}
use Rattle.ledger_acts.specs.LedgerStep.{Opened}
use Rattle.ledger_acts.specs.LedgerState.{IsState}
use Rattle.ledger_core.specs.Questions.{TellsBy}

-- ---- what is told

-- a call that commits nothing changes no map
pub keeps_map : (how : Ended) (before after : Known) → Leaves [] how before after → KeepsTold before.tables after.tables
keeps_map done before after l = applies_same before.tables after.tables l.applies
keeps_map failed before after l = none_made (Halts before after) before.tables after.tables l.front
keeps_map starved before after l = none_made ⊥ before.tables after.tables l.front
keeps_map refused before after l = l.unchanged

pub still_backs : {S : Type 0} (StandsFor : Tables → S → Type 0) (state : S) (before after : Option Tables) → KeepsTold before after → Backs StandsFor before state → Backs StandsFor after state
still_backs StandsFor state before None keeps stands = tt
still_backs StandsFor state None (Some later) keeps stands = absurd (not_told later keeps)
still_backs StandsFor state (Some tables) (Some later) keeps stands = subst (λ (t : Tables). StandsFor t state) (sym (is_told later tables keeps)) stands

pub told_both : (P Q : Tables → Type 0) (R : Type 0) (before after : Option Tables) → IfSome after (λ _. IsSome before) → IfSome after (λ _. IfSome before P) → IfSome before Q → ((tables : Tables) → P tables → Q tables → R) → IfSome after (λ _. R)
told_both P Q R before None told p q both = tt
told_both P Q R None (Some later) told p q both = absurd cc
told_both P Q R (Some tables) (Some later) told p q both = both tables p q

pub told_always : (P : Tables → Type 0) (before after : Option Tables) → ((tables : Tables) → P tables) → IfSome after (λ _. IfSome before P)
told_always P before None always = tt
told_always P None (Some later) always = tt
told_always P (Some tables) (Some later) always = always tables

pub told_on : (P R : Tables → Type 0) (before after : Option Tables) → ((tables : Tables) → P tables → R tables) → IfSome after (λ _. IfSome before P) → IfSome after (λ _. IfSome before R)
told_on P R before None on p = tt
told_on P R None (Some later) on p = tt
told_on P R (Some tables) (Some later) on p = on tables p

-- ---- replies

pub reply_on : {A F : Type 0} (by_fault : F → Ended) (one other : Option F) (P Q : A → Type 0) (result : Result A F) → one ≡ other → ((x : A) → one ≡ None → P x → Q x) → IsReply by_fault one P result → IsReply by_fault other Q result
reply_on by_fault one other P Q (Ok x) same on is = (sym same ∙ is.0, on x is.0 is.1)
reply_on by_fault one other P Q (Err fault) same on is = subst (λ (o : Option _). IsRefusal (by_fault fault) o fault) same is

pub asks_wide : {A F : Type 0} (by_fault : F → Ended) (looks more : Tables → ℕ) (refusal : Tables → Option F) (IsAnswer : Tables → A → Type 0) (result : Result A F) (before after : Known) → ((tables : Tables) → looks tables ≤ more tables) →
    Asks by_fault looks refusal IsAnswer result before after → Asks by_fault more refusal IsAnswer result before after
asks_wide by_fault looks more refusal IsAnswer result before after wider asked = record {
  reply = asked.reply;
  leaves = asked.leaves;
  looked = told_on _ _ before.tables after.tables (λ tables few. (few.0, omega (arith, few.1, wider tables))) asked.looked;
}

module _ {A F : Type 0} (by_fault : F → Ended) (looks : Tables → ℕ) (refusal_by : Tables → Option F) (IsAnswerBy : Tables → A → Type 0) (refusal : List Entry → Option F) (IsAnswer : Opened → List Entry → A → Type 0)
    (agrees : (opened : Opened) (entries : List Entry) (tables : Tables) → IsState opened tables entries → refusal_by tables ≡ refusal entries)
    (answers : (opened : Opened) (entries : List Entry) (tables : Tables) (x : A) → IsState opened tables entries → refusal_by tables ≡ None → IsAnswerBy tables x → IsAnswer opened entries x) where
  pub tells : (result : Result A F) (before after : Known) → Asks by_fault looks refusal_by IsAnswerBy result before after → TellsBy by_fault refusal IsAnswer result before after
  tells result before after asked opened entries stands = record {
    reply = told_both _ _ _ before.tables after.tables (was_told [] (ended by_fault result) before after asked.leaves) asked.reply stands
        (λ tables is state. reply_on by_fault (refusal_by tables) (refusal entries) (IsAnswerBy tables) (IsAnswer opened entries) result (agrees opened entries tables state) (λ x none by. answers opened entries tables x state none by) is);
    same = still_backs (IsState opened) entries before.tables after.tables (keeps_map (ended by_fault result) before after asked.leaves) stands;
  }
