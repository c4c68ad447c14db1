-- What a plan escrows of an asset on a ledger in all is the need.
use Rattle.std.proofs.Common.{◌≡◌, ℕ, ◌+◌, ◌⊎◌, inl, inr, Bool, true, false, cond, ltb, ◌&&◌, ◌==◌, List, [], ◌∷◌, ◌++◌, arith, refl, sym, ap, subst, ◌∙◌}
use Rattle.std.specs.List.{Contains, AllByRecursion}
use Rattle.std.specs.Str.{bytes_eq}
use Rattle.std.specs.declared.cmp.Ordering.TheVariants.{Less}
use Rattle.std.proofs.lemmas.Bool.{ltb-true, ltb-false, and_parts}
use Rattle.std.proofs.lemmas.List.Sums.{sum_by-append, sum_by-cons}
use Rattle.std.proofs.lemmas.Slice.Eq.{bytes_eq-Decides}
use Rattle.deal_core.specs.declared.step.Step.{Step}
use Rattle.clear_core.specs.Clearing.{need_of, turns_of}
use Rattle.clear_core.specs.Pairs.{pair_cmp, pairs_of, Ascend}
use Rattle.clear_core.specs.Plans.{escrow_of, escrows_of, transfer_of, transfers_behind, plan_of, escrowed, escrowed_in}
use Rattle.clear_core.specs.declared.pair.Pair.{Pair}
use Rattle.clear_core.specs.declared.plan_act.PlanAct.TheVariants.{Register, Escrow, Transfer}
use Rattle.clear_core.proofs.Escrowed.{some_moved}
use Rattle.clear_core.proofs.Least.{need_le}
use Rattle.clear_core.proofs.Moved.{at_head, in_tail, head_or_tail, none_in_empty, pairs_ascend, moved_in_pairs}
use Rattle.clear_core.proofs.PairOrder.{not_before_itself}

abbrev pair_at : List ℕ → List ℕ → Pair
pair_at ledger asset = record { ledger = ledger; asset = asset }

-- ---- one pair

-- what the escrow of a pair comes to
of_pair : (steps : List Step) (party : ℕ) (pair : Pair) (ledger asset : List ℕ) → escrowed_in (escrow_of steps party pair) ledger asset ≡ cond (bytes_eq ledger pair.ledger && bytes_eq asset pair.asset) (need_of steps party pair.ledger pair.asset) 0
of_pair steps party pair ledger asset = by_test (ltb 0 (need_of steps party pair.ledger pair.asset)) refl
  where
    nothing : (b : Bool) (n : ℕ) → n ≡ 0 → 0 ≡ cond b n 0
    nothing true n e = sym e
    nothing false n e = refl

    by_test : (b : Bool) → ltb 0 (need_of steps party pair.ledger pair.asset) ≡ b → escrowed_in (cond b (Escrow pair.ledger pair.asset (need_of steps party pair.ledger pair.asset) ∷ []) []) ledger asset ≡ cond (bytes_eq ledger pair.ledger && bytes_eq asset pair.asset) (need_of steps party pair.ledger pair.asset) 0
    by_test true e = let one = sum_by-cons (escrowed ledger asset) (Escrow pair.ledger pair.asset (need_of steps party pair.ledger pair.asset)) [] in omega (arith, one)
    by_test false e = nothing (bytes_eq ledger pair.ledger && bytes_eq asset pair.asset) (need_of steps party pair.ledger pair.asset) (omega (arith, ltb-false 0 (need_of steps party pair.ledger pair.asset) e))

same_pair : (steps : List Step) (party : ℕ) (pair : Pair) (ledger asset : List ℕ) → pair ≡ pair_at ledger asset → escrowed_in (escrow_of steps party pair) ledger asset ≡ need_of steps party ledger asset
same_pair steps party pair ledger asset is =
    let on : bytes_eq ledger pair.ledger ≡ true = (bytes_eq-Decides ledger pair.ledger).1 (sym (ap (λ (p : Pair). p.ledger) is)) in
    let of : bytes_eq asset pair.asset ≡ true = (bytes_eq-Decides asset pair.asset).1 (sym (ap (λ (p : Pair). p.asset) is)) in
    let all : cond (bytes_eq ledger pair.ledger && bytes_eq asset pair.asset) (need_of steps party pair.ledger pair.asset) 0 ≡ need_of steps party pair.ledger pair.asset = rw (on, of) refl in
    of_pair steps party pair ledger asset ∙ (all ∙ ap (λ (p : Pair). need_of steps party p.ledger p.asset) is)

-- another pair's escrow comes to nothing, and so does a pair's own where the need is nothing
no_pair : (steps : List Step) (party : ℕ) (pair : Pair) (ledger asset : List ℕ) → (pair ≡ pair_at ledger asset → need_of steps party ledger asset ≡ 0) → escrowed_in (escrow_of steps party pair) ledger asset ≡ 0
no_pair steps party pair ledger asset none = by_same (bytes_eq ledger pair.ledger && bytes_eq asset pair.asset) refl
  where
    by_same : (b : Bool) → (bytes_eq ledger pair.ledger && bytes_eq asset pair.asset) ≡ b → escrowed_in (escrow_of steps party pair) ledger asset ≡ 0
    by_same false e = of_pair steps party pair ledger asset ∙ ap (λ b. cond b (need_of steps party pair.ledger pair.asset) 0) e
    by_same true e =
        let both = and_parts (bytes_eq ledger pair.ledger) (bytes_eq asset pair.asset) e in
        let on : pair.ledger ≡ ledger = sym ((bytes_eq-Decides ledger pair.ledger).0 both.0) in
        let of : pair.asset ≡ asset = sym ((bytes_eq-Decides asset pair.asset).0 both.1) in
        let is : pair ≡ pair_at ledger asset = ap (λ (x : List ℕ). pair_at x pair.asset) on ∙ ap (λ (x : List ℕ). pair_at ledger x) of in
        same_pair steps party pair ledger asset is ∙ none is

-- ---- all pairs

one_more : (steps : List Step) (party : ℕ) (pair : Pair) (pairs : List Pair) (ledger asset : List ℕ) → escrowed_in (escrows_of steps party (pair ∷ pairs)) ledger asset ≡ escrowed_in (escrow_of steps party pair) ledger asset + escrowed_in (escrows_of steps party pairs) ledger asset
one_more steps party pair pairs ledger asset = sum_by-append (escrowed ledger asset) (escrow_of steps party pair) (escrows_of steps party pairs)

none_escrowed : (steps : List Step) (party : ℕ) (pairs : List Pair) (ledger asset : List ℕ) → (Contains pairs (pair_at ledger asset) → need_of steps party ledger asset ≡ 0) → escrowed_in (escrows_of steps party pairs) ledger asset ≡ 0
none_escrowed steps party [] ledger asset none = refl
none_escrowed steps party (pair ∷ pairs) ledger asset none =
    let here = no_pair steps party pair ledger asset (λ is. none (subst (λ (p : Pair). Contains (pair ∷ pairs) p) is (at_head pair pairs))) in
    let later = none_escrowed steps party pairs ledger asset (λ c. none (in_tail pair pairs (pair_at ledger asset) c)) in
    omega (arith, one_more steps party pair pairs ledger asset, here, later)

-- what holds of all pairs holds of each
holds_at : (P : Pair → Type 0) (pairs : List Pair) (pair : Pair) → AllByRecursion P pairs → Contains pairs pair → P pair
holds_at P [] pair h c = absurd (none_in_empty pair c)
holds_at P (p ∷ ps) pair h c = elim (head_or_tail p ps pair c) [ inl is ↦ subst P is h.0 | inr there ↦ holds_at P ps pair h.1 there ]

-- a pair doesn't stand again behind itself
not_again : (pair other : Pair) (pairs : List Pair) → AllByRecursion (λ next. pair_cmp pair next ≡ Less) pairs → pair ≡ other → Contains pairs other → ⊥
not_again pair other pairs h is c =
    let before : pair_cmp pair other ≡ Less = holds_at (λ next. pair_cmp pair next ≡ Less) pairs other h c in
    not_before_itself other (subst (λ (p : Pair). pair_cmp p other ≡ Less) is before)

once_escrowed : (steps : List Step) (party : ℕ) (pairs : List Pair) (ledger asset : List ℕ) → Ascend pairs → Contains pairs (pair_at ledger asset) → escrowed_in (escrows_of steps party pairs) ledger asset ≡ need_of steps party ledger asset
once_escrowed steps party [] ledger asset h c = absurd (none_in_empty (pair_at ledger asset) c)
once_escrowed steps party (pair ∷ pairs) ledger asset h c = by_place (once_escrowed steps party pairs ledger asset h.1) (head_or_tail pair pairs (pair_at ledger asset) c)
  where
    by_place : (Contains pairs (pair_at ledger asset) → escrowed_in (escrows_of steps party pairs) ledger asset ≡ need_of steps party ledger asset) → (pair ≡ pair_at ledger asset) ⊎ Contains pairs (pair_at ledger asset) → escrowed_in (escrows_of steps party (pair ∷ pairs)) ledger asset ≡ need_of steps party ledger asset
    by_place later (inl is) =
        let rest = none_escrowed steps party pairs ledger asset (λ c. absurd (not_again pair (pair_at ledger asset) pairs h.0 is c)) in
        omega (arith, one_more steps party pair pairs ledger asset, same_pair steps party pair ledger asset is, rest)
    by_place later (inr there) =
        let here = no_pair steps party pair ledger asset (λ is. absurd (not_again pair (pair_at ledger asset) pairs h.0 is there)) in
        omega (arith, one_more steps party pair pairs ledger asset, here, later there)

escrows_total : (steps : List Step) (party : ℕ) (ledger asset : List ℕ) → escrowed_in (escrows_of steps party (pairs_of steps)) ledger asset ≡ need_of steps party ledger asset
escrows_total steps party ledger asset = by_need (ltb 0 (need_of steps party ledger asset)) refl
  where
    by_need : (b : Bool) → ltb 0 (need_of steps party ledger asset) ≡ b → escrowed_in (escrows_of steps party (pairs_of steps)) ledger asset ≡ need_of steps party ledger asset
    by_need true e =
        let moved = some_moved steps party ledger asset (omega (arith, ltb-true 0 (need_of steps party ledger asset) e, need_le steps party ledger asset)) in
        once_escrowed steps party (pairs_of steps) ledger asset (pairs_ascend steps) (moved_in_pairs steps (pair_at ledger asset) moved)
    by_need false e =
        let nothing : need_of steps party ledger asset ≡ 0 = omega (arith, ltb-false 0 (need_of steps party ledger asset) e) in
        none_escrowed steps party (pairs_of steps) ledger asset (λ c. nothing) ∙ sym nothing

-- ---- the plan

transfer_escrows_none : (party : ℕ) (before : List Step) (step : Step) (ledger asset : List ℕ) → escrowed_in (transfer_of party before step) ledger asset ≡ 0
transfer_escrows_none party before step ledger asset = by_test (party == step.from)
  where
    by_test : (b : Bool) → escrowed_in (cond b (Transfer step.ledger (turns_of before party step.ledger) step.to step.asset step.amount ∷ []) []) ledger asset ≡ 0
    by_test true = refl
    by_test false = refl

transfers_escrow_none : (party : ℕ) (before steps : List Step) (ledger asset : List ℕ) → escrowed_in (transfers_behind party before steps) ledger asset ≡ 0
transfers_escrow_none party before [] ledger asset = refl
transfers_escrow_none party before (step ∷ steps) ledger asset =
    omega (arith, sum_by-append (escrowed ledger asset) (transfer_of party before step) (transfers_behind party (before ++ step ∷ []) steps), transfer_escrows_none party before step ledger asset, transfers_escrow_none party (before ++ step ∷ []) steps ledger asset)

pub plan_total : (steps : List Step) (party : ℕ) (ledger asset : List ℕ) → escrowed_in (plan_of steps party) ledger asset ≡ need_of steps party ledger asset
plan_total steps party ledger asset =
    omega (arith, sum_by-cons (escrowed ledger asset) Register (escrows_of steps party (pairs_of steps) ++ transfers_behind party [] steps), sum_by-append (escrowed ledger asset) (escrows_of steps party (pairs_of steps)) (transfers_behind party [] steps), escrows_total steps party ledger asset, transfers_escrow_none party [] steps ledger asset)
