-- Sums over the steps that pass a test.
use Rattle.std.proofs.Common.{ℕ, ◌≤◌, Bool, true, false, cond, ◌&&◌, ◌==◌, List, arith}
use Rattle.std.proofs.lemmas.List.Sums.{sum_by-le-sum_by}
use Rattle.deal_core.specs.Deals.{is_of, amount_if, amount_where, total_of, matrix_of}
use Rattle.deal_core.specs.declared.step.Step.{Step}

-- a test that asks for more counts no more
both_le : (a b : Bool) (n : ℕ) → cond (a && b) n 0 ≤ cond b n 0
both_le true true n = omega arith
both_le true false n = omega arith
both_le false true n = omega arith
both_le false false n = omega arith

pub and_le : (first second : Step → Bool) (steps : List Step) → amount_where (λ step. first step && second step) steps ≤ amount_where second steps
and_le first second steps = sum_by-le-sum_by (amount_if (λ step. first step && second step)) (amount_if second) steps (λ step. both_le (first step) (second step) step.amount)

pub matrix_le : (steps : List Step) (from to : ℕ) (ledger asset : List ℕ) → matrix_of steps from to ledger asset ≤ total_of steps ledger asset
matrix_le steps from to ledger asset =
    omega (arith, and_le (λ step. from == step.from) (λ step. to == step.to && is_of ledger asset step) steps, and_le (λ step. to == step.to) (is_of ledger asset) steps)
