-- The first pair of which a deal asks too much, step by step.
use Rattle.std.proofs.Common.{◌≡◌, ℕ, ◌≤◌, ◌<◌, inl, inr, Bool, true, false, cond, ◌&&◌, Option, Some, None, List, [], ◌∷◌, ◌++◌, length, take, get_or, suc, ◌+◌, arith, refl, sym, ap, subst, ◌∙◌}
use Rattle.std.specs.Prelude.{IfSome, IfNone}
use Rattle.std.specs.List.{Contains}
use Rattle.std.proofs.Math.Seq.{take-suc}
use Rattle.std.proofs.lemmas.List.{take_all}
use Rattle.std.specs.Ordering.{is_lt}
use Rattle.std.specs.declared.cmp.Ordering.{Ordering}
use Rattle.std.specs.declared.cmp.Ordering.TheVariants.{Less, Equal, Greater}
use Rattle.std.proofs.lemmas.Bool.{ltb-true, ltb-false}
use Rattle.std.proofs.lemmas.List.Elements.{Contains-push, Contains-push_cases, Contains-append_left}
use Rattle.deal_core.specs.declared.step.Step.{Step}
use Rattle.clear_core.specs.Clearing.{need_of}
use Rattle.clear_core.specs.Pairs.{pair_of, pair_cmp, is_earlier}
use Rattle.clear_core.specs.TermsKept.{allowed_of, is_over, earlier_over, NoneOver, IsFirstOver}
use Rattle.clear_core.specs.declared.limit.Limit.{Limit}
use Rattle.clear_core.specs.declared.pair.Pair.{Pair}
use Rattle.clear_core.proofs.PairOrder.{pair_total, not_before_itself}

-- the limits allow what the deal asks of the pair
abbrev pub IsKept : List Step → ℕ → List Limit → Pair → Type 0
IsKept steps party gives pair = need_of steps party pair.ledger pair.asset ≤ allowed_of gives pair.ledger pair.asset

-- the pair is the first over one among those of the steps in front
pub record IsFirstIn (steps : List Step) (party : ℕ) (gives : List Limit) (front : List Step) (pair : Pair) : Type 0 where
  pub step : Step
  pub of_front : Contains front step
  pub pair_is : pair_of step ≡ pair
  pub over : allowed_of gives pair.ledger pair.asset < need_of steps party pair.ledger pair.asset
  pub first : (other : Step) → Contains front other → pair_cmp (pair_of other) pair ≡ Less → IsKept steps party gives (pair_of other)

abbrev pub Found : List Step → ℕ → List Limit → List Step → Option Pair → Type 0
Found steps party gives front None = (other : Step) → Contains front other → IsKept steps party gives (pair_of other)
Found steps party gives front (Some pair) = IsFirstIn steps party gives front pair

less : (o : Ordering) → is_lt o ≡ true → o ≡ Less
less Less h = refl
less Equal h = absurd cc
less Greater h = absurd cc

not_less : (o : Ordering) → is_lt o ≡ false → o ≡ Less → ⊥
not_less o h e = absurd (let t : is_lt o ≡ true = ap is_lt e in cc)

-- a step that isn't over leaves what was found
kept_more : (steps : List Step) (party : ℕ) (gives : List Limit) (front : List Step) (step : Step) (found : Option Pair) → Found steps party gives front found → (IsKept steps party gives (pair_of step)) → Found steps party gives (front ++ step ∷ []) found
kept_more steps party gives front step None h kept =
    λ other c. elim (Contains-push_cases front step other c) [ inl in_front ↦ h other in_front | inr same ↦ subst (λ (s : Step). IsKept steps party gives (pair_of s)) same kept ]
kept_more steps party gives front step (Some pair) h kept = record {
  step = h.step;
  of_front = Contains-append_left front (step ∷ []) h.step h.of_front;
  pair_is = h.pair_is;
  over = h.over;
  first = λ other c before. elim (Contains-push_cases front step other c) [ inl in_front ↦ h.first other in_front before | inr same ↦ subst (λ (s : Step). IsKept steps party gives (pair_of s)) same kept ];
}

-- a step whose pair isn't earlier leaves what was found
later_more : (steps : List Step) (party : ℕ) (gives : List Limit) (front : List Step) (step : Step) (found : Option Pair) → Found steps party gives front found → is_earlier (pair_of step) found ≡ false → Found steps party gives (front ++ step ∷ []) found
later_more steps party gives front step None h e = absurd cc
later_more steps party gives front step (Some pair) h e = record {
  step = h.step;
  of_front = Contains-append_left front (step ∷ []) h.step h.of_front;
  pair_is = h.pair_is;
  over = h.over;
  first = λ other c before. elim (Contains-push_cases front step other c) [
    | inl in_front ↦ h.first other in_front before
    | inr same ↦ absurd (not_less (pair_cmp (pair_of step) pair) e (ap (λ (s : Step). pair_cmp (pair_of s) pair) same ∙ before))
  ];
}

-- what stands before an earlier pair was kept
before_kept : (steps : List Step) (party : ℕ) (gives : List Limit) (front : List Step) (pair : Pair) (found : Option Pair) → Found steps party gives front found → is_earlier pair found ≡ true → (other : Step) → Contains front other → pair_cmp (pair_of other) pair ≡ Less → IsKept steps party gives (pair_of other)
before_kept steps party gives front pair None h e other c before = h other c
before_kept steps party gives front pair (Some p) h e other c before = h.first other c (pair_total.trans (pair_of other) pair p before (less (pair_cmp pair p) e))

over_more : (steps : List Step) (party : ℕ) (gives : List Limit) (front : List Step) (step : Step) (found : Option Pair) → Found steps party gives front found → is_earlier (pair_of step) found ≡ true → is_over steps party gives (pair_of step) ≡ true → IsFirstIn steps party gives (front ++ step ∷ []) (pair_of step)
over_more steps party gives front step found h e over = record {
  step = step;
  of_front = Contains-push front step;
  pair_is = refl;
  over = ltb-true (allowed_of gives step.ledger step.asset) (need_of steps party step.ledger step.asset) over;
  first = λ other c before. elim (Contains-push_cases front step other c) [
    | inl in_front ↦ before_kept steps party gives front (pair_of step) found h e other in_front before
    | inr same ↦ absurd (not_before_itself (pair_of step) (ap (λ (s : Step). pair_cmp (pair_of s) (pair_of step)) same ∙ before))
  ];
}

pub found_more : (steps : List Step) (party : ℕ) (gives : List Limit) (front : List Step) (step : Step) (found : Option Pair) → Found steps party gives front found → Found steps party gives (front ++ step ∷ []) (earlier_over steps party gives step found)
found_more steps party gives front step found h = by_over (is_over steps party gives (pair_of step)) refl
  where
    by_earlier : is_over steps party gives (pair_of step) ≡ true → (b : Bool) → is_earlier (pair_of step) found ≡ b → Found steps party gives (front ++ step ∷ []) (cond b (Some (pair_of step)) found)
    by_earlier over true e = over_more steps party gives front step found h e over
    by_earlier over false e = later_more steps party gives front step found h e

    by_over : (b : Bool) → is_over steps party gives (pair_of step) ≡ b → Found steps party gives (front ++ step ∷ []) (cond (b && is_earlier (pair_of step) found) (Some (pair_of step)) found)
    by_over false e = kept_more steps party gives front step found h (ltb-false (allowed_of gives step.ledger step.asset) (need_of steps party step.ledger step.asset) e)
    by_over true e = by_earlier e (is_earlier (pair_of step) found) refl

pub found_next : (steps : List Step) (party : ℕ) (gives : List Limit) (items : List Step) (k : ℕ) (step : Step) (found next : Option Pair) → k < length items → step ≡ get_or items k step → next ≡ earlier_over steps party gives step found → Found steps party gives (take k items) found → Found steps party gives (take (k + 1) items) next
found_next steps party gives items k step found next h is e f =
    let one : k + 1 ≡ suc k = omega arith in
    let front : take (k + 1) items ≡ take k items ++ step ∷ [] = ap (λ j. take j items) one ∙ (take-suc items k step h ∙ ap (λ (s : Step). take k items ++ s ∷ []) (sym is)) in
    subst (λ (xs : List Step). Found steps party gives xs next) (sym front) (subst (Found steps party gives (take k items ++ step ∷ [])) (sym e) (found_more steps party gives (take k items) step found f))

-- what was found among all steps
pub found_all : (steps : List Step) (party : ℕ) (gives : List Limit) (items : List Step) (k : ℕ) (found : Option Pair) → items ≡ steps → length items ≤ k → Found steps party gives (take k items) found → Found steps party gives steps found
found_all steps party gives items k found same h f = subst (λ (xs : List Step). Found steps party gives xs found) (take_all k items h ∙ same) f

pub none_over : (steps : List Step) (party : ℕ) (gives : List Limit) (found : Option Pair) → Found steps party gives steps found → IfNone found (NoneOver steps party gives)
none_over steps party gives None f = f
none_over steps party gives (Some pair) f = tt

pub some_over : (steps : List Step) (party : ℕ) (gives : List Limit) (found : Option Pair) → Found steps party gives steps found → IfSome found (IsFirstOver steps party gives)
some_over steps party gives None f = tt
some_over steps party gives (Some pair) f = record { step = f.step; of_deal = f.of_front; pair_is = f.pair_is; over = f.over; first = f.first }
