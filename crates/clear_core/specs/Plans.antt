-- What a party does in a deal: it registers the deal, escrows its needs, and makes its own steps.
use Rattle.std.specs.Prelude.{ℕ, ◌==◌, ◌&&◌, nat_lt, if◌then◌else◌, List, [], ◌∷◌, ◌++◌}
use Rattle.std.specs.List.{flat_map, sum_by}
use Rattle.std.specs.Str.{bytes_eq}
use Rattle.deal_core.specs.declared.step.Step.{Step}
use Rattle.clear_core.specs.Clearing.{need_of, turns_of}
use Rattle.clear_core.specs.Pairs.{pairs_of}
use Rattle.clear_core.specs.declared.pair.Pair.{Pair}
use Rattle.clear_core.specs.declared.plan_act.PlanAct.{PlanAct}
use Rattle.clear_core.specs.declared.plan_act.PlanAct.TheVariants.{Register, Escrow, Transfer}

-- the escrow of the pair, where the need is above 0
abbrev pub escrow_of : List Step → ℕ → Pair → List PlanAct
escrow_of steps party pair =
    if nat_lt 0 (need_of steps party pair.ledger pair.asset)
    then Escrow pair.ledger pair.asset (need_of steps party pair.ledger pair.asset) ∷ []
    else []

abbrev pub escrows_of : List Step → ℕ → List Pair → List PlanAct
escrows_of steps party pairs = flat_map (escrow_of steps party) pairs

-- The transfer of a step, where it is the party's own. Its turn counts the party's steps on that
-- ledger before it.
abbrev pub transfer_of : ℕ → List Step → Step → List PlanAct
transfer_of party before step =
    if party == step.from
    then
    Transfer step.ledger (turns_of before party step.ledger) step.to step.asset step.amount ∷ []
    else []

-- the transfers of the steps that stand behind those before
abbrev pub transfers_behind : ℕ → List Step → List Step → List PlanAct
transfers_behind party before [] = []
transfers_behind party before (step ∷ steps) =
    transfer_of party before step ++ transfers_behind party (before ++ step ∷ []) steps

abbrev pub plan_of : List Step → ℕ → List PlanAct
plan_of steps party =
    Register ∷ (escrows_of steps party (pairs_of steps) ++ transfers_behind party [] steps)

-- what the act escrows of the asset on the ledger
abbrev pub escrowed : List ℕ → List ℕ → PlanAct → ℕ
escrowed ledger asset Register = 0
escrowed ledger asset (Escrow on of amount) =
    if bytes_eq ledger on && bytes_eq asset of then amount else 0
escrowed ledger asset (Transfer on turn to of amount) = 0

-- what a plan escrows of it in all
abbrev pub escrowed_in : List PlanAct → List ℕ → List ℕ → ℕ
escrowed_in plan ledger asset = sum_by (escrowed ledger asset) plan
