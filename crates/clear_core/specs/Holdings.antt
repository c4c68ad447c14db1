-- What parties hold while the steps of a deal are made, one after another.
use Rattle.std.specs.Prelude.{ℕ, zero, suc, ◌≤◌, ◌+◌, ◌-◌, List, [], ◌∷◌, take}
use Rattle.deal_core.specs.Deals.{amount_if}
use Rattle.deal_core.specs.declared.step.Step.{Step}
use Rattle.clear_core.specs.Clearing.{is_out, is_in, outgoing, incoming}

-- A party that begins with this amount of the asset is never below zero: behind each prefix of the
-- steps what went out is at most what it began with and what came in.
abbrev pub IsNeverBelowZero : ℕ → List Step → ℕ → List ℕ → List ℕ → Type 0
IsNeverBelowZero begins steps party ledger asset =
    (n : ℕ) → outgoing (take n steps) party ledger asset
    ≤ begins + incoming (take n steps) party ledger asset

-- what each party holds on each ledger of each asset
abbrev pub Holdings : Type 0
Holdings = ℕ → List ℕ → List ℕ → ℕ

-- the holdings with a step made
abbrev pub with_step : Holdings → Step → Holdings
with_step holds step party ledger asset =
    holds party ledger asset + amount_if (is_in party ledger asset) step
    - amount_if (is_out party ledger asset) step

-- The parties begin with these holdings, and no step takes its sender's below zero.
abbrev pub Funds : Holdings → List Step → Type 0
Funds begins [] = Unit {0}
Funds begins (step ∷ steps) =
    (step.amount ≤ begins step.from step.ledger step.asset) × Funds (with_step begins step) steps

-- what so many parties have together, where each has the value of its index
abbrev pub of_all : (ℕ → ℕ) → ℕ → ℕ
of_all value zero = 0
of_all value (suc n) = of_all value n + value n
