-- The turns of a plan's transfers.
use Rattle.std.proofs.Common.{◌≡◌, ℕ, ◌+◌, ◌<◌, ◌==◌, ltb, Bool, true, false, cond, ◌&&◌, List, [], ◌∷◌, ◌++◌, Contains, refl, ap, sym, subst, inl, inr, arith, append_assoc}
use Rattle.std.specs.Str.{bytes_eq}
use Rattle.std.proofs.lemmas.Slice.Eq.{bytes_eq-Decides}
use Rattle.std.proofs.lemmas.List.Elements.{Contains-append_cases}
use Rattle.std.proofs.lemmas.List.Sums.{sum_by-append, sum_by-cons}
use Rattle.deal_core.specs.declared.step.Step.{Step}
use Rattle.clear_core.specs.Clearing.{is_turn, turns_of, need_of}
use Rattle.clear_core.specs.Pairs.{pairs_of}
use Rattle.clear_core.specs.Plans.{escrow_of, escrows_of, transfer_of, transfers_behind, plan_of}
use Rattle.clear_core.specs.declared.pair.Pair.{Pair}
use Rattle.clear_core.specs.declared.plan_act.PlanAct.TheVariants.{Register, Escrow, Transfer}
use Rattle.ledger_history.proofs.Elements.{head_or_tail, none_in_empty}

at_step : (k : ℕ) (before : List Step) (step : Step) (steps : List Step) (l : List ℕ) (t to : ℕ) (x : List ℕ) (n : ℕ) → Contains (transfer_of k before step) (Transfer l t to x n) → t < turns_of (before ++ step ∷ steps) k l
at_step k before step steps l t to x n c = by_test (k == step.from) refl c
  where
    more : (k == step.from) ≡ true → step.ledger ≡ l → turns_of before k step.ledger ≡ t → t < turns_of (before ++ step ∷ steps) k l
    more own on turn =
        let one : ◌≡◌ {A = ℕ} (cond ((k == step.from) && bytes_eq l step.ledger) 1 0) 1 = rw (own, (bytes_eq-Decides l step.ledger).1 (sym on)) refl in
        let same : turns_of before k step.ledger ≡ turns_of before k l = ap (λ (y : List ℕ). turns_of before k y) on in
        let all : turns_of (before ++ step ∷ steps) k l ≡ turns_of before k l + turns_of (step ∷ steps) k l = sum_by-append (λ s. cond (is_turn k l s) 1 0) before (step ∷ steps) in
        let next : turns_of (step ∷ steps) k l ≡ cond ((k == step.from) && bytes_eq l step.ledger) 1 0 + turns_of steps k l = sum_by-cons (λ s. cond (is_turn k l s) 1 0) step steps in
        omega (arith, one, same, turn, all, next)

    is_own : (k == step.from) ≡ true → Transfer step.ledger (turns_of before k step.ledger) step.to step.asset step.amount ≡ Transfer l t to x n → t < turns_of (before ++ step ∷ steps) k l
    is_own own is =
        let on : step.ledger ≡ l = cc in
        let turn : turns_of before k step.ledger ≡ t = cc in
        more own on turn

    by_test : (b : Bool) → (k == step.from) ≡ b → Contains (cond b (Transfer step.ledger (turns_of before k step.ledger) step.to step.asset step.amount ∷ []) []) (Transfer l t to x n) → t < turns_of (before ++ step ∷ steps) k l
    by_test false own c = absurd (none_in_empty (Transfer l t to x n) c)
    by_test true own c = elim (head_or_tail (Transfer step.ledger (turns_of before k step.ledger) step.to step.asset step.amount) [] (Transfer l t to x n) c) [
      | inl is ↦ is_own own is
      | inr there ↦ absurd (none_in_empty (Transfer l t to x n) there)
    ]

in_transfers : (k : ℕ) (before steps : List Step) (l : List ℕ) (t to : ℕ) (x : List ℕ) (n : ℕ) → Contains (transfers_behind k before steps) (Transfer l t to x n) → t < turns_of (before ++ steps) k l
in_transfers k before [] l t to x n c = absurd (none_in_empty (Transfer l t to x n) c)
in_transfers k before (step ∷ steps) l t to x n c = elim (Contains-append_cases (transfer_of k before step) (transfers_behind k (before ++ step ∷ []) steps) (Transfer l t to x n) c) [
  | inl here ↦ at_step k before step steps l t to x n here
  | inr later ↦ subst (λ (all : List Step). t < turns_of all k l) (append_assoc before (step ∷ []) steps) (in_transfers k (before ++ step ∷ []) steps l t to x n later)
]

no_transfer : (steps : List Step) (k : ℕ) (pairs : List Pair) (l : List ℕ) (t to : ℕ) (x : List ℕ) (n : ℕ) → Contains (escrows_of steps k pairs) (Transfer l t to x n) → ⊥
no_transfer steps k [] l t to x n c = none_in_empty (Transfer l t to x n) c
no_transfer steps k (pair ∷ pairs) l t to x n c = elim (Contains-append_cases (escrow_of steps k pair) (escrows_of steps k pairs) (Transfer l t to x n) c) [
  | inl here ↦ by_test (ltb 0 (need_of steps k pair.ledger pair.asset)) here
  | inr later ↦ no_transfer steps k pairs l t to x n later
]
  where
    not_escrow : (m : ℕ) → Escrow pair.ledger pair.asset m ≡ Transfer l t to x n → ⊥
    not_escrow m is = absurd cc

    by_test : (b : Bool) → Contains (cond b (Escrow pair.ledger pair.asset (need_of steps k pair.ledger pair.asset) ∷ []) []) (Transfer l t to x n) → ⊥
    by_test false c = none_in_empty (Transfer l t to x n) c
    by_test true c = elim (head_or_tail (Escrow pair.ledger pair.asset (need_of steps k pair.ledger pair.asset)) [] (Transfer l t to x n) c) [
      | inl is ↦ not_escrow (need_of steps k pair.ledger pair.asset) is
      | inr there ↦ none_in_empty (Transfer l t to x n) there
    ]

not_register : (l : List ℕ) (t to : ℕ) (x : List ℕ) (n : ℕ) → Register ≡ Transfer l t to x n → ⊥
not_register l t to x n is = absurd cc

pub plan_turns : (steps : List Step) (k : ℕ) (l : List ℕ) (t to : ℕ) (x : List ℕ) (n : ℕ) → Contains (plan_of steps k) (Transfer l t to x n) → t < turns_of steps k l
plan_turns steps k l t to x n c = elim (head_or_tail Register (escrows_of steps k (pairs_of steps) ++ transfers_behind k [] steps) (Transfer l t to x n) c) [
  | inl is ↦ absurd (not_register l t to x n is)
  | inr there ↦ elim (Contains-append_cases (escrows_of steps k (pairs_of steps)) (transfers_behind k [] steps) (Transfer l t to x n) there) [
    | inl escrow ↦ absurd (no_transfer steps k (pairs_of steps) l t to x n escrow)
    | inr transfer ↦ in_transfers k [] steps l t to x n transfer
  ]
]
