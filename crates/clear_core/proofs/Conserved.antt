-- What all parties are owed together is what they escrow together.
use Rattle.std.proofs.Common.{◌≡◌, ℕ, zero, suc, ◌+◌, ◌≤◌, ◌<◌, Bool, true, false, cond, ltb, ◌&&◌, ◌==◌, List, [], ◌∷◌, arith, refl, eq-eqb, ne_eqb}
use Rattle.std.specs.List.{AllByRecursion}
use Rattle.std.proofs.lemmas.Bool.{ltb-true, ltb-false}
use Rattle.std.proofs.lemmas.List.Sums.{sum_by-cons}
use Rattle.deal_core.specs.Deals.{is_of, amount_if, total_of}
use Rattle.deal_core.specs.Kept.{IsStepOf}
use Rattle.deal_core.specs.declared.step.Step.{Step}
use Rattle.clear_core.specs.Clearing.{is_out, is_in, outgoing, incoming, need_of, due_of}
use Rattle.clear_core.specs.Holdings.{of_all}
use Rattle.clear_core.proofs.Least.{covers}

-- ---- sums over parties

of_all_same : (f g : ℕ → ℕ) (n : ℕ) → ((party : ℕ) → f party ≡ g party) → of_all f n ≡ of_all g n
of_all_same f g zero h = refl
of_all_same f g (suc n) h = omega (arith, of_all_same f g n h, h n)

of_all_plus : (f g : ℕ → ℕ) (n : ℕ) → of_all (λ party. f party + g party) n ≡ of_all f n + of_all g n
of_all_plus f g zero = refl
of_all_plus f g (suc n) = omega (arith, of_all_plus f g n)

of_all_none : (n : ℕ) → of_all (λ party. 0) n ≡ 0
of_all_none zero = refl
of_all_none (suc n) = omega (arith, of_all_none n)

-- what only the party of this index has
abbrev has_one : ℕ → Bool → ℕ → ℕ → ℕ
has_one index test amount party = cond (party == index && test) amount 0

one_past : (n index : ℕ) (test : Bool) (amount : ℕ) → n ≤ index → of_all (has_one index test amount) n ≡ 0
one_past zero index test amount le = refl
one_past (suc n) index test amount le =
    let other : (n == index) ≡ false = ne_eqb n index (λ e. omega (arith, le, e)) in
    let none : has_one index test amount n ≡ 0 = rw other refl in
    omega (arith, one_past n index test amount (omega (arith, le)), none)

of_one : (n index : ℕ) (test : Bool) (amount : ℕ) → index < n → of_all (has_one index test amount) n ≡ cond test amount 0
of_one zero index test amount lt = absurd (omega (arith, lt))
of_one (suc n) index test amount lt = by_last (of_one n index test amount) (ltb index n) refl
  where
    by_last : (index < n → of_all (has_one index test amount) n ≡ cond test amount 0) → (b : Bool) → ltb index n ≡ b → of_all (has_one index test amount) (suc n) ≡ cond test amount 0
    by_last before true e =
        let small : index < n = ltb-true index n e in
        let other : (n == index) ≡ false = ne_eqb n index (λ e. omega (arith, small, e)) in
        let none : has_one index test amount n ≡ 0 = rw other refl in
        omega (arith, before small, none)
    by_last before false e =
        let last : n ≡ index = omega (arith, ltb-false index n e, lt) in
        let same : (n == index) ≡ true = eq-eqb n index last in
        let here : has_one index test amount n ≡ cond test amount 0 = rw same refl in
        omega (arith, one_past n index test amount (omega (arith, last)), here)

-- ---- what goes out of all parties, and what comes in

all_out : (n : ℕ) (steps : List Step) (ledger asset : List ℕ) → AllByRecursion (IsStepOf n) steps → of_all (λ party. outgoing steps party ledger asset) n ≡ total_of steps ledger asset
all_out n [] ledger asset good = of_all_none n
all_out n (step ∷ steps) ledger asset good =
    let each = of_all_same (λ party. outgoing (step ∷ steps) party ledger asset) (λ party. amount_if (is_out party ledger asset) step + outgoing steps party ledger asset) n (λ party. sum_by-cons (amount_if (is_out party ledger asset)) step steps) in
    let both = of_all_plus (λ party. amount_if (is_out party ledger asset) step) (λ party. outgoing steps party ledger asset) n in
    let one : of_all (λ party. amount_if (is_out party ledger asset) step) n ≡ amount_if (is_of ledger asset) step = of_one n step.from (is_of ledger asset step) step.amount good.0.from in
    omega (arith, each, both, one, all_out n steps ledger asset good.1, sum_by-cons (amount_if (is_of ledger asset)) step steps)

all_in : (n : ℕ) (steps : List Step) (ledger asset : List ℕ) → AllByRecursion (IsStepOf n) steps → of_all (λ party. incoming steps party ledger asset) n ≡ total_of steps ledger asset
all_in n [] ledger asset good = of_all_none n
all_in n (step ∷ steps) ledger asset good =
    let each = of_all_same (λ party. incoming (step ∷ steps) party ledger asset) (λ party. amount_if (is_in party ledger asset) step + incoming steps party ledger asset) n (λ party. sum_by-cons (amount_if (is_in party ledger asset)) step steps) in
    let both = of_all_plus (λ party. amount_if (is_in party ledger asset) step) (λ party. incoming steps party ledger asset) n in
    let one : of_all (λ party. amount_if (is_in party ledger asset) step) n ≡ amount_if (is_of ledger asset) step = of_one n step.to (is_of ledger asset step) step.amount good.0.to in
    omega (arith, each, both, one, all_in n steps ledger asset good.1, sum_by-cons (amount_if (is_of ledger asset)) step steps)

-- ---- dues and needs

due_and_out : (steps : List Step) (party : ℕ) (ledger asset : List ℕ) → due_of steps party ledger asset + outgoing steps party ledger asset ≡ need_of steps party ledger asset + incoming steps party ledger asset
due_and_out steps party ledger asset = omega (arith, covers steps party ledger asset)

pub dues_are_needs : (n : ℕ) (steps : List Step) (ledger asset : List ℕ) → AllByRecursion (IsStepOf n) steps → of_all (λ party. due_of steps party ledger asset) n ≡ of_all (λ party. need_of steps party ledger asset) n
dues_are_needs n steps ledger asset good =
    let same = of_all_same (λ party. due_of steps party ledger asset + outgoing steps party ledger asset) (λ party. need_of steps party ledger asset + incoming steps party ledger asset) n (λ party. due_and_out steps party ledger asset) in
    let dues = of_all_plus (λ party. due_of steps party ledger asset) (λ party. outgoing steps party ledger asset) n in
    let needs = of_all_plus (λ party. need_of steps party ledger asset) (λ party. incoming steps party ledger asset) n in
    omega (arith, same, dues, needs, all_out n steps ledger asset good, all_in n steps ledger asset good)
