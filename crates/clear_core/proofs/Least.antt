-- The greatest excess is the least amount to begin with.
use Rattle.std.proofs.Common.{◌≡◌, ℕ, zero, suc, ◌+◌, ◌-◌, ◌≤◌, Bool, true, false, cond, ltb, ◌&&◌, ◌==◌, List, length, take, max, arith, refl, sym, subst, ◌∙◌}
use Rattle.std.proofs.Math.Nat.{le-max_left, le-max_right, max-le}
use Rattle.std.proofs.lemmas.Bool.{ltb-true, ltb-false}
use Rattle.std.proofs.lemmas.List.{take_all}
use Rattle.std.proofs.lemmas.List.Sums.{sum_by-le-sum_by, sum_by-take-le}
use Rattle.deal_core.specs.Deals.{is_of, amount_if, total_of}
use Rattle.deal_core.specs.declared.step.Step.{Step}
use Rattle.clear_core.specs.Clearing.{is_out, is_in, outgoing, incoming, excess, greatest_to, need_of}
use Rattle.clear_core.specs.Holdings.{IsNeverBelowZero}

-- ---- the greatest of values

greatest_at : (value : ℕ → ℕ) (n k : ℕ) → k ≤ n → value k ≤ greatest_to value n
greatest_at value zero k h =
    let first : k ≡ 0 = omega (arith, h) in
    subst (λ j. value j ≤ value 0) (sym first) (omega arith)
greatest_at value (suc n) k h = by_last (greatest_at value n k) (ltb n k) refl
  where
    by_last : (k ≤ n → value k ≤ greatest_to value n) → (b : Bool) → ltb n k ≡ b → value k ≤ max (greatest_to value n) (value (suc n))
    by_last before true e =
        let last : k ≡ suc n = omega (arith, ltb-true n k e) in
        subst (λ j. value j ≤ max (greatest_to value n) (value (suc n))) (sym last) (le-max_right (greatest_to value n) (value (suc n)))
    by_last before false e = omega (arith, before (ltb-false n k e), le-max_left (greatest_to value n) (value (suc n)))

greatest_le : (value : ℕ → ℕ) (n m : ℕ) → ((k : ℕ) → value k ≤ m) → greatest_to value n ≤ m
greatest_le value zero m h = h 0
greatest_le value (suc n) m h = max-le (greatest_le value n m h) (h (suc n))

-- ---- prefixes

excess_within : (steps : List Step) (party : ℕ) (ledger asset : List ℕ) (n : ℕ) → excess steps party ledger asset n ≤ need_of steps party ledger asset
excess_within steps party ledger asset n = by_length (ltb (length steps) n) refl
  where
    by_length : (b : Bool) → ltb (length steps) n ≡ b → excess steps party ledger asset n ≤ need_of steps party ledger asset
    by_length true e =
        let past : take n steps ≡ steps = take_all n steps (omega (arith, ltb-true (length steps) n e)) in
        let all : take (length steps) steps ≡ steps = take_all (length steps) steps (omega arith) in
        subst (λ (front : List Step). outgoing front party ledger asset - incoming front party ledger asset ≤ need_of steps party ledger asset) (all ∙ sym past) (greatest_at (excess steps party ledger asset) (length steps) (length steps) (omega arith))
    by_length false e = greatest_at (excess steps party ledger asset) (length steps) n (ltb-false (length steps) n e)

-- ---- the need

pub need_funds : (steps : List Step) (party : ℕ) (ledger asset : List ℕ) → IsNeverBelowZero (need_of steps party ledger asset) steps party ledger asset
need_funds steps party ledger asset n = omega (arith, excess_within steps party ledger asset n)

pub need_is_least : (steps : List Step) (party : ℕ) (ledger asset : List ℕ) (begins : ℕ) → IsNeverBelowZero begins steps party ledger asset → need_of steps party ledger asset ≤ begins
need_is_least steps party ledger asset begins h = greatest_le (excess steps party ledger asset) (length steps) begins (λ k. omega (arith, h k))

-- ---- bounds

both_le : (a b : Bool) (n : ℕ) → cond (a && b) n 0 ≤ cond b n 0
both_le true true n = omega arith
both_le true false n = omega arith
both_le false true n = omega arith
both_le false false n = omega arith

pub outgoing_le : (steps : List Step) (party : ℕ) (ledger asset : List ℕ) → outgoing steps party ledger asset ≤ total_of steps ledger asset
outgoing_le steps party ledger asset = sum_by-le-sum_by (amount_if (is_out party ledger asset)) (amount_if (is_of ledger asset)) steps (λ step. both_le (party == step.from) (is_of ledger asset step) step.amount)

pub incoming_le : (steps : List Step) (party : ℕ) (ledger asset : List ℕ) → incoming steps party ledger asset ≤ total_of steps ledger asset
incoming_le steps party ledger asset = sum_by-le-sum_by (amount_if (is_in party ledger asset)) (amount_if (is_of ledger asset)) steps (λ step. both_le (party == step.to) (is_of ledger asset step) step.amount)

-- a prefix passes on no more than all the steps
pub need_le : (steps : List Step) (party : ℕ) (ledger asset : List ℕ) → need_of steps party ledger asset ≤ outgoing steps party ledger asset
need_le steps party ledger asset =
    need_is_least steps party ledger asset (outgoing steps party ledger asset) (λ n. omega (arith, sum_by-take-le (amount_if (is_out party ledger asset)) steps n))

-- the need and all that comes in cover all that goes out
pub covers : (steps : List Step) (party : ℕ) (ledger asset : List ℕ) → outgoing steps party ledger asset ≤ need_of steps party ledger asset + incoming steps party ledger asset
covers steps party ledger asset =
    subst (λ (front : List Step). outgoing front party ledger asset ≤ need_of steps party ledger asset + incoming front party ledger asset) (take_all (length steps) steps (omega arith)) (need_funds steps party ledger asset (length steps))
