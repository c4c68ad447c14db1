-- A plan escrows exactly the needs above 0.
use Rattle.std.proofs.Common.{◌≡◌, ℕ, ◌+◌, ◌<◌, inl, inr, Bool, true, false, cond, ltb, ◌==◌, List, [], ◌∷◌, ◌++◌, arith, refl, sym, ap, subst, ◌∙◌}
use Rattle.std.specs.List.{Contains}
use Rattle.std.specs.Str.{bytes_eq}
use Rattle.std.proofs.lemmas.Bool.{ltb-true, lt-ltb, and_parts}
use Rattle.std.proofs.lemmas.List.Elements.{Contains-append_left, Contains-append_right, Contains-append_cases}
use Rattle.std.proofs.lemmas.List.Sums.{sum_by-cons}
use Rattle.std.proofs.lemmas.Slice.Eq.{bytes_eq-Decides}
use Rattle.deal_core.specs.Deals.{is_of, amount_if}
use Rattle.deal_core.specs.declared.step.Step.{Step}
use Rattle.clear_core.specs.Clearing.{is_out, outgoing, need_of, turns_of}
use Rattle.clear_core.specs.Pairs.{pairs_of, IsMoved}
use Rattle.clear_core.specs.Plans.{escrow_of, escrows_of, transfer_of, transfers_behind, plan_of}
use Rattle.clear_core.specs.declared.pair.Pair.{Pair}
use Rattle.clear_core.specs.declared.plan_act.PlanAct.{PlanAct}
use Rattle.clear_core.specs.declared.plan_act.PlanAct.TheVariants.{Register, Escrow, Transfer}
use Rattle.clear_core.proofs.Least.{need_le}
use Rattle.clear_core.proofs.Moved.{at_head, in_tail, head_or_tail, none_in_empty, moved_in_pairs}

-- the amount is the need, which is above 0
abbrev IsNeed : List Step → ℕ → List ℕ → List ℕ → ℕ → Type 0
IsNeed steps party ledger asset amount = (0 < amount) × (amount ≡ need_of steps party ledger asset)

-- ---- from the plan to the need

same_escrow : (steps : List Step) (party : ℕ) (a b ledger asset : List ℕ) (amount : ℕ) → 0 < need_of steps party a b → Escrow a b (need_of steps party a b) ≡ Escrow ledger asset amount → IsNeed steps party ledger asset amount
same_escrow steps party a b ledger asset amount some e =
    let on : a ≡ ledger = cc in
    let of : b ≡ asset = cc in
    let all : need_of steps party a b ≡ amount = cc in
    (subst (λ n. 0 < n) all some, sym all ∙ (ap (λ (x : List ℕ). need_of steps party x b) on ∙ ap (λ (x : List ℕ). need_of steps party ledger x) of))

escrow_is_need : (steps : List Step) (party : ℕ) (pair : Pair) (ledger asset : List ℕ) (amount : ℕ) → Contains (escrow_of steps party pair) (Escrow ledger asset amount) → IsNeed steps party ledger asset amount
escrow_is_need steps party pair ledger asset amount c = by_test (ltb 0 (need_of steps party pair.ledger pair.asset)) refl c
  where
    by_test : (b : Bool) → ltb 0 (need_of steps party pair.ledger pair.asset) ≡ b → Contains (cond b (Escrow pair.ledger pair.asset (need_of steps party pair.ledger pair.asset) ∷ []) []) (Escrow ledger asset amount) → IsNeed steps party ledger asset amount
    by_test false e c = absurd (none_in_empty (Escrow ledger asset amount) c)
    by_test true e c = elim (head_or_tail (Escrow pair.ledger pair.asset (need_of steps party pair.ledger pair.asset)) [] (Escrow ledger asset amount) c) [
      | inl is ↦ same_escrow steps party pair.ledger pair.asset ledger asset amount (ltb-true 0 (need_of steps party pair.ledger pair.asset) e) is
      | inr there ↦ absurd (none_in_empty (Escrow ledger asset amount) there)
    ]

escrows_are_needs : (steps : List Step) (party : ℕ) (pairs : List Pair) (ledger asset : List ℕ) (amount : ℕ) → Contains (escrows_of steps party pairs) (Escrow ledger asset amount) → IsNeed steps party ledger asset amount
escrows_are_needs steps party [] ledger asset amount c = absurd (none_in_empty (Escrow ledger asset amount) c)
escrows_are_needs steps party (pair ∷ pairs) ledger asset amount c = elim (Contains-append_cases (escrow_of steps party pair) (escrows_of steps party pairs) (Escrow ledger asset amount) c) [
  | inl here ↦ escrow_is_need steps party pair ledger asset amount here
  | inr later ↦ escrows_are_needs steps party pairs ledger asset amount later
]

no_escrow : (ledger asset : List ℕ) (amount : ℕ) (on of : List ℕ) (turn to moved : ℕ) → Transfer on turn to of moved ≡ Escrow ledger asset amount → ⊥
no_escrow ledger asset amount on of turn to moved e = absurd cc

transfer_is_none : (party : ℕ) (before : List Step) (step : Step) (ledger asset : List ℕ) (amount : ℕ) → Contains (transfer_of party before step) (Escrow ledger asset amount) → ⊥
transfer_is_none party before step ledger asset amount c = by_test (party == step.from) c
  where
    by_test : (b : Bool) → Contains (cond b (Transfer step.ledger (turns_of before party step.ledger) step.to step.asset step.amount ∷ []) []) (Escrow ledger asset amount) → ⊥
    by_test false c = none_in_empty (Escrow ledger asset amount) c
    by_test true c = elim (head_or_tail (Transfer step.ledger (turns_of before party step.ledger) step.to step.asset step.amount) [] (Escrow ledger asset amount) c) [
      | inl is ↦ no_escrow ledger asset amount step.ledger step.asset (turns_of before party step.ledger) step.to step.amount is
      | inr there ↦ none_in_empty (Escrow ledger asset amount) there
    ]

transfers_are_none : (party : ℕ) (before steps : List Step) (ledger asset : List ℕ) (amount : ℕ) → Contains (transfers_behind party before steps) (Escrow ledger asset amount) → ⊥
transfers_are_none party before [] ledger asset amount c = none_in_empty (Escrow ledger asset amount) c
transfers_are_none party before (step ∷ steps) ledger asset amount c = elim (Contains-append_cases (transfer_of party before step) (transfers_behind party (before ++ step ∷ []) steps) (Escrow ledger asset amount) c) [
  | inl here ↦ transfer_is_none party before step ledger asset amount here
  | inr later ↦ transfers_are_none party (before ++ step ∷ []) steps ledger asset amount later
]

not_register : (ledger asset : List ℕ) (amount : ℕ) → Register ≡ Escrow ledger asset amount → ⊥
not_register ledger asset amount e = absurd cc

pub escrowed_is_need : (steps : List Step) (party : ℕ) (ledger asset : List ℕ) (amount : ℕ) → Contains (plan_of steps party) (Escrow ledger asset amount) → IsNeed steps party ledger asset amount
escrowed_is_need steps party ledger asset amount c = elim (head_or_tail Register _ (Escrow ledger asset amount) c) [
  | inl is ↦ absurd (not_register ledger asset amount is)
  | inr there ↦ elim (Contains-append_cases (escrows_of steps party (pairs_of steps)) (transfers_behind party [] steps) (Escrow ledger asset amount) there) [
    | inl escrow ↦ escrows_are_needs steps party (pairs_of steps) ledger asset amount escrow
    | inr transfer ↦ absurd (transfers_are_none party [] steps ledger asset amount transfer)
  ]
]

-- ---- from the need to the plan

-- what goes out goes out with a step
pub some_moved : (steps : List Step) (party : ℕ) (ledger asset : List ℕ) → 0 < outgoing steps party ledger asset → IsMoved steps (record { ledger = ledger; asset = asset })
some_moved [] party ledger asset some = absurd (omega (arith, some))
some_moved (step ∷ steps) party ledger asset some = by_test (some_moved steps party ledger asset) (is_out party ledger asset step) refl
  where
    more : outgoing (step ∷ steps) party ledger asset ≡ amount_if (is_out party ledger asset) step + outgoing steps party ledger asset
    more = sum_by-cons (amount_if (is_out party ledger asset)) step steps

    here : is_of ledger asset step ≡ true → IsMoved (step ∷ steps) (record { ledger = ledger; asset = asset })
    here e =
        let both = and_parts (bytes_eq ledger step.ledger) (bytes_eq asset step.asset) e in
        let on : ledger ≡ step.ledger = (bytes_eq-Decides ledger step.ledger).0 both.0 in
        let of : asset ≡ step.asset = (bytes_eq-Decides asset step.asset).0 both.1 in
        (step, at_head step steps, ap (λ (x : List ℕ). record { ledger = x; asset = step.asset }) (sym on) ∙ ap (λ (x : List ℕ). record { ledger = ledger; asset = x }) (sym of))

    by_test : (0 < outgoing steps party ledger asset → IsMoved steps (record { ledger = ledger; asset = asset })) → (b : Bool) → is_out party ledger asset step ≡ b → IsMoved (step ∷ steps) (record { ledger = ledger; asset = asset })
    by_test later true e = here (and_parts (party == step.from) (is_of ledger asset step) e).1
    by_test later false e =
        let none : amount_if (is_out party ledger asset) step ≡ 0 = ap (λ b. cond b step.amount 0) e in
        let moved = later (omega (arith, some, more, none)) in
        (moved.0, in_tail step steps moved.0 moved.1, moved.2)

escrow_there : (steps : List Step) (party : ℕ) (ledger asset : List ℕ) → 0 < need_of steps party ledger asset → Contains (escrow_of steps party (record { ledger = ledger; asset = asset })) (Escrow ledger asset (need_of steps party ledger asset))
escrow_there steps party ledger asset some = rw (lt-ltb 0 (need_of steps party ledger asset) some) (at_head (Escrow ledger asset (need_of steps party ledger asset)) [])

in_escrows : (steps : List Step) (party : ℕ) (pairs : List Pair) (pair : Pair) (act : PlanAct) → Contains pairs pair → Contains (escrow_of steps party pair) act → Contains (escrows_of steps party pairs) act
in_escrows steps party [] pair act c h = absurd (none_in_empty pair c)
in_escrows steps party (p ∷ ps) pair act c h = elim (head_or_tail p ps pair c) [
  | inl is ↦ Contains-append_left (escrow_of steps party p) (escrows_of steps party ps) act (subst (λ (x : Pair). Contains (escrow_of steps party x) act) (sym is) h)
  | inr there ↦ Contains-append_right (escrow_of steps party p) (escrows_of steps party ps) act (in_escrows steps party ps pair act there h)
]

pub need_is_escrowed : (steps : List Step) (party : ℕ) (ledger asset : List ℕ) (amount : ℕ) → IsNeed steps party ledger asset amount → Contains (plan_of steps party) (Escrow ledger asset amount)
need_is_escrowed steps party ledger asset amount h =
    let some : 0 < need_of steps party ledger asset = subst (λ n. 0 < n) h.1 h.0 in
    let moved : IsMoved steps (record { ledger = ledger; asset = asset }) = some_moved steps party ledger asset (omega (arith, some, need_le steps party ledger asset)) in
    let escrow : Contains (escrows_of steps party (pairs_of steps)) (Escrow ledger asset (need_of steps party ledger asset)) = in_escrows steps party (pairs_of steps) (record { ledger = ledger; asset = asset }) (Escrow ledger asset (need_of steps party ledger asset)) (moved_in_pairs steps (record { ledger = ledger; asset = asset }) moved) (escrow_there steps party ledger asset some) in
    subst (λ n. Contains (plan_of steps party) (Escrow ledger asset n)) (sym h.1)
    (in_tail Register (escrows_of steps party (pairs_of steps) ++ transfers_behind party [] steps) (Escrow ledger asset (need_of steps party ledger asset)) (Contains-append_left (escrows_of steps party (pairs_of steps)) (transfers_behind party [] steps) (Escrow ledger asset (need_of steps party ledger asset)) escrow))
