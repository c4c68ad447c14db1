-- The transfers of the steps, one step after another.
use Rattle.std.proofs.Common.{◌≡◌, ℕ, suc, ◌+◌, ◌<◌, List, [], ◌∷◌, ◌++◌, length, take, drop, get_or, arith, append_assoc, sym, ap, ◌∙◌}
use Rattle.std.proofs.Math.Seq.{drop-cons, take-suc}
use Rattle.deal_core.specs.declared.step.Step.{Step}
use Rattle.clear_core.specs.Plans.{transfer_of, transfers_behind}
use Rattle.clear_core.specs.declared.plan_act.PlanAct.{PlanAct}

pub one_more : (party : ℕ) (steps : List Step) (k : ℕ) (step : Step) → k < length steps → step ≡ get_or steps k step → transfers_behind party (take k steps) (drop k steps) ≡ transfer_of party (take k steps) step ++ transfers_behind party (take (k + 1) steps) (drop (k + 1) steps)
one_more party steps k step h is =
    let next : suc k ≡ k + 1 = omega arith in
    let rest : drop k steps ≡ step ∷ drop (k + 1) steps = drop-cons steps k step h ∙ (ap (λ (s : Step). s ∷ drop (suc k) steps) (sym is) ∙ ap (λ j. step ∷ drop j steps) next) in
    let front : take (k + 1) steps ≡ take k steps ++ step ∷ [] = ap (λ j. take j steps) (sym next) ∙ (take-suc steps k step h ∙ ap (λ (s : Step). take k steps ++ s ∷ []) (sym is)) in
    ap (transfers_behind party (take k steps)) rest ∙ ap (λ (before : List Step). transfer_of party (take k steps) step ++ transfers_behind party before (drop (k + 1) steps)) (sym front)

pub transfers_more : (party : ℕ) (steps : List Step) (k : ℕ) (step : Step) (acts all more : List PlanAct) → k < length steps → step ≡ get_or steps k step → acts ++ transfers_behind party (take k steps) (drop k steps) ≡ all → more ≡ acts ++ transfer_of party (take k steps) step → more ++ transfers_behind party (take (k + 1) steps) (drop (k + 1) steps) ≡ all
transfers_more party steps k step acts all more h is whole grown =
    ap (λ (xs : List PlanAct). xs ++ transfers_behind party (take (k + 1) steps) (drop (k + 1) steps)) grown
    ∙ (append_assoc acts (transfer_of party (take k steps) step) (transfers_behind party (take (k + 1) steps) (drop (k + 1) steps))
    ∙ (ap (λ (xs : List PlanAct). acts ++ xs) (sym (one_more party steps k step h is)) ∙ whole))
