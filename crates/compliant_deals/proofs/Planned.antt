-- What is done on a ledger is what the plans have there.
use Rattle.std.proofs.Common.{◌≡◌, ℕ, zero, suc, ◌<◌, ◌==◌, ltb, Bool, true, false, cond, inl, inr, List, [], ◌∷◌, ◌++◌, map, length, refl, ap, sym, ◌∙◌, subst, arith}
use Rattle.std.specs.List.{Contains, flat_map}
use Rattle.std.specs.Str.{bytes_eq}
use Rattle.std.proofs.lemmas.Bool.{eqb-true}
use Rattle.deal_core.specs.Deals.{DealTold}
use Rattle.deal_core.specs.declared.step.Step.{Step}
use Rattle.clear_core.specs.Clearing.{need_of, turns_of}
use Rattle.clear_core.specs.Pairs.{pairs_of}
use Rattle.clear_core.specs.Plans.{escrow_of, escrows_of, transfer_of, transfers_behind, plan_of}
use Rattle.clear_core.specs.declared.pair.Pair.{Pair}
use Rattle.clear_core.specs.declared.plan_act.PlanAct.{PlanAct}
use Rattle.clear_core.specs.declared.plan_act.PlanAct.TheVariants as plan
use Rattle.clear_core.proofs.Moved.{at_head, in_tail, head_or_tail, none_in_empty}
use Rattle.joined_deals.proofs.Counted.{itself}
use Rattle.joined_deals.proofs.Elements.{in_front, in_back, in_either, of_map, only_one}
use Rattle.compliant_deals.proofs.Places.{below_or_last}
use Rattle.compliant_deals.specs.Parts.{PartyAct, act_by, escrow_on, escrows_on, transfer_on, transfers_on, acts_on}

-- ---- what is done is planned

escrow_planned : (l : List ℕ) (k : ℕ) (acts : List PlanAct) (done : PartyAct) → Contains (flat_map (escrow_on l k) acts) done → (k ≡ done.party) × Contains acts done.act
escrow_planned l k [] done there = absurd (none_in_empty done there)
escrow_planned l k (plan.Register ∷ acts) done there = let later = escrow_planned l k acts done there in (later.0, in_tail plan.Register acts done.act later.1)
escrow_planned l k (plan.Transfer on t to of m ∷ acts) done there = let later = escrow_planned l k acts done there in (later.0, in_tail (plan.Transfer on t to of m) acts done.act later.1)
escrow_planned l k (plan.Escrow on of m ∷ acts) done there = by_test (escrow_planned l k acts done) (bytes_eq l on) there
  where
    in_later : (k ≡ done.party) × Contains acts done.act → (k ≡ done.party) × Contains (plan.Escrow on of m ∷ acts) done.act
    in_later later = (later.0, in_tail (plan.Escrow on of m) acts done.act later.1)

    by_test : (Contains (flat_map (escrow_on l k) acts) done → (k ≡ done.party) × Contains acts done.act) → (b : Bool) → Contains (cond b (act_by k (plan.Escrow on of m) ∷ []) [] ++ flat_map (escrow_on l k) acts) done → (k ≡ done.party) × Contains (plan.Escrow on of m ∷ acts) done.act
    by_test ih false c = in_later (ih c)
    by_test ih true c = elim (head_or_tail (act_by k (plan.Escrow on of m)) (flat_map (escrow_on l k) acts) done c) [
      | inl is ↦ (ap (λ (p : PartyAct). p.party) is, subst (λ (p : PartyAct). Contains (plan.Escrow on of m ∷ acts) p.act) is (at_head (plan.Escrow on of m) acts))
      | inr later ↦ in_later (ih later)
    ]

escrows_planned : (steps : List Step) (l : List ℕ) (n : ℕ) (done : PartyAct) → Contains (escrows_on steps l n) done → Contains (plan_of steps done.party) done.act
escrows_planned steps l zero done there = absurd (none_in_empty done there)
escrows_planned steps l (suc n) done there = elim (in_either (escrows_on steps l n) (flat_map (escrow_on l n) (plan_of steps n)) done there) [
  | inl before ↦ escrows_planned steps l n done before
  | inr own ↦ (let r = escrow_planned l n (plan_of steps n) done own in subst (λ (k : ℕ). Contains (plan_of steps k) done.act) r.0 r.1)
]

transfer_planned : (l : List ℕ) (before : List Step) (step : Step) (done : PartyAct) → Contains (transfer_on l before step) done → Contains (transfer_of done.party before step) done.act
transfer_planned l before step done there = by_test (bytes_eq l step.ledger) there
  where
    by_test : (b : Bool) → Contains (cond b (map (act_by step.from) (transfer_of step.from before step)) []) done → Contains (transfer_of done.party before step) done.act
    by_test false c = absurd (none_in_empty done c)
    by_test true c =
        let from = of_map (act_by step.from) (transfer_of step.from before step) done c in
        subst (λ (p : PartyAct). Contains (transfer_of p.party before step) p.act) (sym from.2) from.1

transfers_planned : (l : List ℕ) (before steps : List Step) (done : PartyAct) → Contains (transfers_on l before steps) done → Contains (transfers_behind done.party before steps) done.act
transfers_planned l before [] done there = absurd (none_in_empty done there)
transfers_planned l before (step ∷ steps) done there = elim (in_either (transfer_on l before step) (transfers_on l (before ++ step ∷ []) steps) done there) [
  | inl here ↦ in_front (transfer_of done.party before step) (transfers_behind done.party (before ++ step ∷ []) steps) done.act (transfer_planned l before step done here)
  | inr later ↦ in_back (transfer_of done.party before step) (transfers_behind done.party (before ++ step ∷ []) steps) done.act (transfers_planned l (before ++ step ∷ []) steps done later)
]

pub acts_planned : (deal : DealTold) (l : List ℕ) (r : ℕ) (done : PartyAct) → Contains (acts_on deal l r deal.steps) done → Contains (plan_of deal.steps done.party) done.act
acts_planned deal l r done there = elim (head_or_tail (act_by r plan.Register) (escrows_on deal.steps l (length deal.parties) ++ transfers_on l [] deal.steps) done there) [
  | inl is ↦ subst (λ (p : PartyAct). Contains (plan_of deal.steps p.party) p.act) is (at_head plan.Register (escrows_of deal.steps r (pairs_of deal.steps) ++ transfers_behind r [] deal.steps))
  | inr later ↦ elim (in_either (escrows_on deal.steps l (length deal.parties)) (transfers_on l [] deal.steps) done later) [
    | inl escrow ↦ escrows_planned deal.steps l (length deal.parties) done escrow
    | inr transfer ↦
        let k : ℕ = done.party in
        in_tail plan.Register (escrows_of deal.steps k (pairs_of deal.steps) ++ transfers_behind k [] deal.steps) done.act
        (in_back (escrows_of deal.steps k (pairs_of deal.steps)) (transfers_behind k [] deal.steps) done.act (transfers_planned l [] deal.steps done transfer))
  ]
]

-- ---- what is planned is done

escrow_done : (l : List ℕ) (k : ℕ) (x : List ℕ) (n : ℕ) (acts : List PlanAct) → Contains acts (plan.Escrow l x n) → Contains (flat_map (escrow_on l k) acts) (act_by k (plan.Escrow l x n))
escrow_done l k x n [] there = absurd (none_in_empty (plan.Escrow l x n) there)
escrow_done l k x n (act ∷ acts) there = elim (head_or_tail act acts (plan.Escrow l x n) there) [
  | inl is ↦ subst (λ (a : PlanAct). Contains (escrow_on l k a ++ flat_map (escrow_on l k) acts) done) (sym is) here
  | inr later ↦ in_back (escrow_on l k act) (flat_map (escrow_on l k) acts) done (escrow_done l k x n acts later)
]
  where
    done : PartyAct
    done = act_by k (plan.Escrow l x n)

    here : Contains (escrow_on l k (plan.Escrow l x n) ++ flat_map (escrow_on l k) acts) (act_by k (plan.Escrow l x n))
    here = subst (λ (t : Bool). Contains (cond t (act_by k (plan.Escrow l x n) ∷ []) [] ++ flat_map (escrow_on l k) acts) (act_by k (plan.Escrow l x n))) (sym (itself l)) (at_head (act_by k (plan.Escrow l x n)) (flat_map (escrow_on l k) acts))

escrows_done : (steps : List Step) (l : List ℕ) (k : ℕ) (x : List ℕ) (m n : ℕ) → k < n → Contains (plan_of steps k) (plan.Escrow l x m) → Contains (escrows_on steps l n) (act_by k (plan.Escrow l x m))
escrows_done steps l k x m zero less there = absurd (omega (arith, less))
escrows_done steps l k x m (suc n) less there = elim (below_or_last n k less) [
  | inl before ↦ in_front (escrows_on steps l n) (flat_map (escrow_on l n) (plan_of steps n)) (act_by k (plan.Escrow l x m)) (escrows_done steps l k x m n before there)
  | inr last ↦ in_back (escrows_on steps l n) (flat_map (escrow_on l n) (plan_of steps n)) (act_by k (plan.Escrow l x m))
      (subst (λ (j : ℕ). Contains (flat_map (escrow_on l j) (plan_of steps j)) (act_by k (plan.Escrow l x m))) last (escrow_done l k x m (plan_of steps k) there))
]

pub escrow_is_done : (deal : DealTold) (l : List ℕ) (r k : ℕ) (x : List ℕ) (m : ℕ) → k < length deal.parties → Contains (plan_of deal.steps k) (plan.Escrow l x m) → Contains (acts_on deal l r deal.steps) (act_by k (plan.Escrow l x m))
escrow_is_done deal l r k x m less there =
    let done : PartyAct = act_by k (plan.Escrow l x m) in
    let n : ℕ = length deal.parties in
    in_tail (act_by r plan.Register) (escrows_on deal.steps l n ++ transfers_on l [] deal.steps) done (in_front (escrows_on deal.steps l n) (transfers_on l [] deal.steps) done (escrows_done deal.steps l k x m n less there))

in_map : {X Y : Type 0} (f : X → Y) (xs : List X) (x : X) → Contains xs x → Contains (map f xs) (f x)
in_map f [] x there = absurd (none_in_empty x there)
in_map f (y ∷ xs) x there = elim (head_or_tail y xs x there) [
  | inl is ↦ subst (λ (z : _). Contains (f y ∷ map f xs) (f z)) is (at_head (f y) (map f xs))
  | inr later ↦ in_tail (f y) (map f xs) (f x) (in_map f xs x later)
]

module _ (k : ℕ) (l : List ℕ) (t to : ℕ) (x : List ℕ) (n : ℕ) where
  abbrev act : PlanAct
  act = plan.Transfer l t to x n

  on_ledger : (on of : List ℕ) (turn receiver amount : ℕ) → plan.Transfer on turn receiver of amount ≡ act → on ≡ l
  on_ledger on of turn receiver amount is = cc

  transfer_done : (before : List Step) (step : Step) → Contains (transfer_of k before step) act → Contains (transfer_on l before step) (act_by k act)
  transfer_done before step there = by_test (k == step.from) refl there
    where
      own : k ≡ step.from → step.ledger ≡ l → Contains (transfer_on l before step) (act_by k act)
      own from on =
          let here : bytes_eq l step.ledger ≡ true = ap (λ (y : List ℕ). bytes_eq l y) on ∙ itself l in
          let sent : Contains (transfer_of step.from before step) act = subst (λ (j : ℕ). Contains (transfer_of j before step) act) from there in
          let listed = in_map (act_by step.from) (transfer_of step.from before step) act sent in
          subst (λ (b : Bool). Contains (cond b (map (act_by step.from) (transfer_of step.from before step)) []) (act_by k act)) (sym here)
          (subst (λ (j : ℕ). Contains (map (act_by step.from) (transfer_of step.from before step)) (act_by j act)) (sym from) listed)

      by_test : (b : Bool) → (k == step.from) ≡ b → Contains (cond b (plan.Transfer step.ledger (turns_of before k step.ledger) step.to step.asset step.amount ∷ []) []) act → Contains (transfer_on l before step) (act_by k act)
      by_test false is c = absurd (none_in_empty act c)
      by_test true is c = own (eqb-true k step.from is) (on_ledger step.ledger step.asset (turns_of before k step.ledger) step.to step.amount (only_one (plan.Transfer step.ledger (turns_of before k step.ledger) step.to step.asset step.amount) act c))

  transfers_done : (before steps : List Step) → Contains (transfers_behind k before steps) act → Contains (transfers_on l before steps) (act_by k act)
  transfers_done before [] there = absurd (none_in_empty act there)
  transfers_done before (step ∷ steps) there = elim (in_either (transfer_of k before step) (transfers_behind k (before ++ step ∷ []) steps) act there) [
    | inl here ↦ in_front (transfer_on l before step) (transfers_on l (before ++ step ∷ []) steps) (act_by k act) (transfer_done before step here)
    | inr later ↦ in_back (transfer_on l before step) (transfers_on l (before ++ step ∷ []) steps) (act_by k act) (transfers_done (before ++ step ∷ []) steps later)
  ]

  not_escrow : (on of : List ℕ) (m : ℕ) → plan.Escrow on of m ≡ act → ⊥
  not_escrow on of m is = absurd cc

  no_transfer : (steps : List Step) (pairs : List Pair) → Contains (escrows_of steps k pairs) act → ⊥
  no_transfer steps [] c = none_in_empty act c
  no_transfer steps (pair ∷ pairs) c = elim (in_either (escrow_of steps k pair) (escrows_of steps k pairs) act c) [
    | inl here ↦ by_test (ltb 0 (need_of steps k pair.ledger pair.asset)) here
    | inr later ↦ no_transfer steps pairs later
  ]
    where
      by_test : (b : Bool) → Contains (cond b (plan.Escrow pair.ledger pair.asset (need_of steps k pair.ledger pair.asset) ∷ []) []) act → ⊥
      by_test false c = none_in_empty act c
      by_test true c = not_escrow pair.ledger pair.asset (need_of steps k pair.ledger pair.asset) (only_one (plan.Escrow pair.ledger pair.asset (need_of steps k pair.ledger pair.asset)) act c)

  not_register : plan.Register ≡ act → ⊥
  not_register is = absurd cc

  pub transfer_is_done : (deal : DealTold) (r : ℕ) → Contains (plan_of deal.steps k) act → Contains (acts_on deal l r deal.steps) (act_by k act)
  transfer_is_done deal r there = elim (head_or_tail plan.Register (escrows_of deal.steps k (pairs_of deal.steps) ++ transfers_behind k [] deal.steps) act there) [
    | inl is ↦ absurd (not_register is)
    | inr later ↦ elim (in_either (escrows_of deal.steps k (pairs_of deal.steps)) (transfers_behind k [] deal.steps) act later) [
      | inl escrow ↦ absurd (no_transfer deal.steps (pairs_of deal.steps) escrow)
      | inr transfer ↦
          let n_parties : ℕ = length deal.parties in
          in_tail (act_by r plan.Register) (escrows_on deal.steps l n_parties ++ transfers_on l [] deal.steps) (act_by k act)
          (in_back (escrows_on deal.steps l n_parties) (transfers_on l [] deal.steps) (act_by k act) (transfers_done [] deal.steps transfer))
    ]
  ]
