-- Holdings fund the steps exactly where they are never below zero.
use Rattle.std.proofs.Common.{◌≡◌, ℕ, zero, suc, ◌+◌, ◌≤◌, Bool, true, false, cond, ◌&&◌, ◌==◌, List, [], ◌∷◌, take, arith, refl, eqb-true, eq-eqb, ne_eqb}
use Rattle.std.specs.List.{AllByRecursion}
use Rattle.std.specs.Str.{bytes_eq}
use Rattle.std.proofs.lemmas.List.Sums.{sum_by-cons}
use Rattle.std.proofs.lemmas.Slice.Eq.{bytes_eq-Decides}
use Rattle.deal_core.specs.Deals.{is_of, amount_if}
use Rattle.deal_core.specs.Kept.{IsStepOf}
use Rattle.deal_core.specs.declared.step.Step.{Step}
use Rattle.clear_core.specs.Clearing.{is_out, is_in, outgoing, incoming, need_of}
use Rattle.clear_core.specs.Holdings.{IsNeverBelowZero, Holdings, with_step, Funds}
use Rattle.clear_core.proofs.Least.{need_funds, need_is_least}

-- no amount that a party begins with is taken below zero
abbrev AreNeverBelowZero : Holdings → List Step → Type 0
AreNeverBelowZero begins steps = (party : ℕ) (ledger asset : List ℕ) → IsNeverBelowZero (begins party ledger asset) steps party ledger asset

-- what goes out with a step is within what the party holds, where the sender's amount covers the step
out_within : (begins : Holdings) (step : Step) → step.amount ≤ begins step.from step.ledger step.asset → (party : ℕ) (ledger asset : List ℕ) → amount_if (is_out party ledger asset) step ≤ begins party ledger asset
out_within begins step h party ledger asset = by_party (party == step.from) refl
  where
    by_party : (b : Bool) → (party == step.from) ≡ b → cond (b && is_of ledger asset step) step.amount 0 ≤ begins party ledger asset
    by_party false e = omega arith
    by_party true e = by_ledger (bytes_eq ledger step.ledger) refl
      where
        by_ledger : (b : Bool) → bytes_eq ledger step.ledger ≡ b → cond (b && bytes_eq asset step.asset) step.amount 0 ≤ begins party ledger asset
        by_ledger false f = omega arith
        by_ledger true f = by_asset (bytes_eq asset step.asset) refl
          where
            by_asset : (b : Bool) → bytes_eq asset step.asset ≡ b → cond b step.amount 0 ≤ begins party ledger asset
            by_asset false g = omega arith
            by_asset true g =
                rw (eqb-true party step.from e, (bytes_eq-Decides ledger step.ledger).0 f, (bytes_eq-Decides asset step.asset).0 g) h

-- one step more
out_more : (step : Step) (steps : List Step) (party : ℕ) (ledger asset : List ℕ) (n : ℕ) → outgoing (take (suc n) (step ∷ steps)) party ledger asset ≡ amount_if (is_out party ledger asset) step + outgoing (take n steps) party ledger asset
out_more step steps party ledger asset n = sum_by-cons (amount_if (is_out party ledger asset)) step (take n steps)

in_more : (step : Step) (steps : List Step) (party : ℕ) (ledger asset : List ℕ) (n : ℕ) → incoming (take (suc n) (step ∷ steps)) party ledger asset ≡ amount_if (is_in party ledger asset) step + incoming (take n steps) party ledger asset
in_more step steps party ledger asset n = sum_by-cons (amount_if (is_in party ledger asset)) step (take n steps)

funded_never_below : (steps : List Step) (begins : Holdings) → Funds begins steps → AreNeverBelowZero begins steps
funded_never_below [] begins h party ledger asset zero = omega arith
funded_never_below [] begins h party ledger asset (suc n) = omega arith
funded_never_below (step ∷ steps) begins h party ledger asset zero = omega arith
funded_never_below (step ∷ steps) begins h party ledger asset (suc n) =
    omega (arith, out_more step steps party ledger asset n, in_more step steps party ledger asset n, out_within begins step h.0 party ledger asset, funded_never_below steps (with_step begins step) h.1 party ledger asset n)

-- the sender of a step between two parties passes its amount on, and receives nothing by it
sends : (parties : ℕ) (step : Step) → IsStepOf parties step → (amount_if (is_out step.from step.ledger step.asset) step ≡ step.amount) × (amount_if (is_in step.from step.ledger step.asset) step ≡ 0)
sends parties step h =
    let ledger : bytes_eq step.ledger step.ledger ≡ true = (bytes_eq-Decides step.ledger step.ledger).1 refl in
    let asset : bytes_eq step.asset step.asset ≡ true = (bytes_eq-Decides step.asset step.asset).1 refl in
    let same : (step.from == step.from) ≡ true = eq-eqb step.from step.from refl in
    let other : (step.from == step.to) ≡ false = ne_eqb step.from step.to h.different in
    (rw (same, ledger, asset) refl, rw other refl)

never_below_funds : (parties : ℕ) (steps : List Step) (begins : Holdings) → AllByRecursion (IsStepOf parties) steps → AreNeverBelowZero begins steps → Funds begins steps
never_below_funds parties [] begins good h = tt
never_below_funds parties (step ∷ steps) begins good h =
    let s = sends parties step good.0 in
    let here : step.amount ≤ begins step.from step.ledger step.asset = omega (arith, out_more step steps step.from step.ledger step.asset 0, in_more step steps step.from step.ledger step.asset 0, h step.from step.ledger step.asset 1, s.0, s.1) in
    (here, never_below_funds parties steps (with_step begins step) good.1 (λ party ledger asset n. omega (arith, out_more step steps party ledger asset n, in_more step steps party ledger asset n, h party ledger asset (suc n), out_within begins step here party ledger asset)))

pub needs_fund : (parties : ℕ) (steps : List Step) → AllByRecursion (IsStepOf parties) steps → Funds (need_of steps) steps
needs_fund parties steps good = never_below_funds parties steps (need_of steps) good (need_funds steps)

pub needs_are_least : (steps : List Step) (begins : Holdings) → Funds begins steps → (party : ℕ) (ledger asset : List ℕ) → need_of steps party ledger asset ≤ begins party ledger asset
needs_are_least steps begins h party ledger asset = need_is_least steps party ledger asset (begins party ledger asset) (funded_never_below steps begins h party ledger asset)
