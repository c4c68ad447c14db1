-- The need funds each step.
use Rattle.std.proofs.Common.{◌≡◌, ℕ, ◌+◌, ◌<◌, ◌≤◌, ◌==◌, true, cond, ◌&&◌, List, [], ◌∷◌, ◌++◌, length, take, ap, arith, refl, append_assoc}
use Rattle.std.specs.Str.{bytes_eq}
use Rattle.std.proofs.Math.Seq.{take-append_seam}
use Rattle.std.proofs.lemmas.Bool.{eq-eqb, ne_eqb}
use Rattle.std.proofs.lemmas.List.{length-append}
use Rattle.std.proofs.lemmas.List.Sums.{sum_by_push, count_by-le-length}
use Rattle.deal_core.specs.Deals.{amount_if}
use Rattle.deal_core.specs.declared.step.Step.{Step}
use Rattle.clear_core.specs.Clearing.{is_out, is_in, outgoing, incoming, need_of, is_turn, turns_of}
use Rattle.clear_core.proofs.Least.{need_funds}
use Rattle.joined_deals.proofs.Counted.{itself}

-- behind a front of the steps no more has gone out than was needed and came in
pub front_funded : (front rest : List Step) (party : ℕ) (l x : List ℕ) → outgoing front party l x ≤ need_of (front ++ rest) party l x + incoming front party l x
front_funded front rest party l x =
    let steps : List Step = front ++ rest in
    let within = need_funds steps party l x (length front) in
    let same : take (length front) steps ≡ front = take-append_seam front rest in
    let out : outgoing (take (length front) steps) party l x ≡ outgoing front party l x = ap (λ (f : List Step). outgoing f party l x) same in
    let come : incoming (take (length front) steps) party l x ≡ incoming front party l x = ap (λ (f : List Step). incoming f party l x) same in
    omega (arith, within, out, come)

-- a step's sender has what it sends
pub step_funded : (before : List Step) (s : Step) (rest : List Step) (l : List ℕ) → bytes_eq l s.ledger ≡ true → (s.from ≡ s.to → ⊥) → outgoing before s.from l s.asset + s.amount ≤ need_of (before ++ s ∷ rest) s.from l s.asset + incoming before s.from l s.asset
step_funded before s rest l here different =
    let front = front_funded (before ++ s ∷ []) rest s.from l s.asset in
    let out : cond ((s.from == s.from) && (bytes_eq l s.ledger && bytes_eq s.asset s.asset)) s.amount 0 ≡ s.amount = rw (eq-eqb s.from s.from refl, here, itself s.asset) refl in
    let come : cond ((s.from == s.to) && (bytes_eq l s.ledger && bytes_eq s.asset s.asset)) s.amount 0 ≡ 0 = ap (λ t. cond (t && (bytes_eq l s.ledger && bytes_eq s.asset s.asset)) s.amount 0) (ne_eqb s.from s.to different) in
    let all : need_of ((before ++ s ∷ []) ++ rest) s.from l s.asset ≡ need_of (before ++ s ∷ rest) s.from l s.asset = ap (λ (f : List Step). need_of f s.from l s.asset) (append_assoc before (s ∷ []) rest) in
    omega (arith, front, all, sum_by_push (amount_if (is_out s.from l s.asset)) before s, sum_by_push (amount_if (is_in s.from l s.asset)) before s, out, come)

pub few_turns : (before rest : List Step) (k : ℕ) (l : List ℕ) → length (before ++ rest) ≤ 64 → turns_of before k l < 4294967295
few_turns before rest k l few = omega (arith, count_by-le-length (is_turn k l) before, length-append before rest, few)
