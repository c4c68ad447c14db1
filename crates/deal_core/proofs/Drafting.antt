-- A draft with a line more that has no fault keeps what drafts keep.
use Rattle.std.proofs.Common.{◌≡◌, ℕ, suc, ◌+◌, ◌-◌, ◌^◌, ◌≤◌, ◌<◌, Bool, true, false, cond, not, ◌&&◌, ◌||◌, ◌==◌, ltb, leb, List, [], ◌∷◌, ◌++◌, length, Option, Some, None, arith, append_assoc, refl, sym, ap, ◌∙◌}
use Rattle.std.specs.List.{list_any, slice_get, AllByRecursion}
use Rattle.std.specs.Option.{unwrap_or}
use Rattle.std.specs.Str.{bytes_eq}
use Rattle.std.proofs.lemmas.Bool.{ltb-false, leb-false, eqb-false, true≢false, and_parts, or_parts, not-false}
use Rattle.std.proofs.lemmas.List.{append-nil, length_push}
use Rattle.std.proofs.lemmas.List.Sums.{sum_by_push}
use Rattle.std.proofs.lemmas.Slice.Eq.{bytes_eq-Decides}
use Rattle.deal_core.specs.Deals.{is_of, is_named, has_account, amount_if, total_of, party_where}
use Rattle.deal_core.specs.DealText.{name_in, party_name}
use Rattle.deal_core.specs.Kept.{AreNewBehind, is_on, new_ledgers, ledger_count, IsStepOf, IsDraft}
use Rattle.deal_core.specs.declared.deal_line.DealLine.{DealLine}
use Rattle.deal_core.specs.declared.deal_line.DealLine.TheVariants as line
use Rattle.line_text.proofs.Faults.{unbroken}
use Rattle.deal_core.specs.Drafts.{Draft, said_fault, is_empty, party_fault, is_ninth, is_party, step_fault, index_in, with_indices}
use Rattle.deal_core.specs.declared.party.Party.{Party}
use Rattle.deal_core.specs.declared.step.Step.{Step}
use Rattle.deal_core.specs.declared.deal_line.NamedStep.{NamedStep}
use Rattle.deal_core.specs.declared.deal_fault.DealFault.{DealFault}

-- ---- tests that found no fault

-- what a step without a fault is
pub record IsGoodStep (parties : List Party) (steps : List Step) (step : NamedStep) : Type 0 where
  pub from : is_party parties step.from ≡ true
  pub to : is_party parties step.to ≡ true
  pub different : bytes_eq step.from step.to ≡ false
  pub some : (step.amount == 0) ≡ false
  pub few : leb 64 (length steps) ≡ false
  pub ninth : is_ninth steps step.ledger ≡ false
  pub small : ltb (2 ^ 63 - 1) (total_of steps step.ledger step.asset + step.amount) ≡ false

pub good_step : (n : ℕ) (parties : List Party) (steps : List Step) (step : NamedStep) → step_fault n parties steps step ≡ None → IsGoodStep parties steps step
good_step n parties steps step h =
    let a = unbroken _ _ _ h in
    let b = unbroken _ _ _ a.1 in
    let c = unbroken _ _ _ b.1 in
    let d = unbroken _ _ _ c.1 in
    let e = unbroken _ _ _ d.1 in
    let known = and_parts _ _ (not-false _ a.0) in
    let room = or_parts _ _ d.0 in
    record { from = known.0; to = known.1; different = b.0; some = c.0; few = room.0; ninth = room.1; small = e.0 }

-- ---- parties

new_push : (before parties : List Party) (party : Party) → AreNewBehind before parties → list_any (is_named party.name) (before ++ parties) ≡ false → list_any (has_account party.account) (before ++ parties) ≡ false → AreNewBehind before (parties ++ party ∷ [])
new_push before [] party h name account =
    (ap (list_any (is_named party.name)) (sym (append-nil before)) ∙ name, ap (list_any (has_account party.account)) (sym (append-nil before)) ∙ account, tt)
new_push before (p ∷ parties) party h name account =
    let joined : before ++ p ∷ parties ≡ (before ++ p ∷ []) ++ parties = sym (append_assoc before (p ∷ []) parties) in
    (h.0, h.1, new_push (before ++ p ∷ []) parties party h.2 (ap (list_any (is_named party.name)) (sym joined) ∙ name) (ap (list_any (has_account party.account)) (sym joined) ∙ account))

pub party_kept : (n : ℕ) (parties : List Party) (steps : List Step) (party : Party) → IsDraft parties steps → is_empty steps ≡ true → party_fault n parties party ≡ None → IsDraft (parties ++ party ∷ []) steps
party_kept n parties [] party h none good =
    let a = unbroken _ _ _ good in
    let new = or_parts _ _ a.0 in
    let room = unbroken _ _ _ a.1 in
    record {
      few_parties = omega (arith, length_push parties party, leb-false 16 (length parties) room.0);
      different = new_push [] parties party h.different new.0 new.1;
      few_steps = h.few_steps;
      between = tt;
      few_ledgers = h.few_ledgers;
      totals = h.totals;
    }
party_kept n parties (step ∷ steps) party h none good = absurd cc

-- ---- the index of a name

-- the index at which a party stands that passes the test
pub record IsAt (test : Party → Bool) (first : ℕ) (parties : List Party) : Type 0 where
  pub index : ℕ
  pub party : Party
  pub found : party_where test first parties ≡ Some (first + index)
  pub there : slice_get parties index ≡ Some party
  pub within : index < length parties
  pub passes : test party ≡ true

pub chosen : {X : Type 0} (b : Bool) (x y : X) → b ≡ true → cond b x y ≡ x
chosen b x y e = rw e refl

pub otherwise : {X : Type 0} (b : Bool) (x y : X) → b ≡ false → cond b x y ≡ y
otherwise b x y e = rw e refl

pub found_at : (test : Party → Bool) (first : ℕ) (parties : List Party) → list_any test parties ≡ true → IsAt test first parties
found_at test first [] h = absurd cc
found_at test first (party ∷ parties) h = by_test (found_at test (first + 1) parties) (test party) refl h
  where
    by_test : (list_any test parties ≡ true → IsAt test (first + 1) parties) → (b : Bool) → test party ≡ b → (test party || list_any test parties) ≡ true → IsAt test first (party ∷ parties)
    by_test later true e h = record {
      index = 0;
      party = party;
      found = chosen (test party) (Some first) _ e ∙ ap (λ k. Some k) (omega arith);
      there = refl;
      within = omega arith;
      passes = e;
    }
    by_test later false e h =
        let rest : list_any test parties ≡ true = ap (λ b. b || list_any test parties) (sym e) ∙ h in
        let r = later rest in
        record {
          index = suc r.index;
          party = r.party;
          found = otherwise (test party) (Some first) _ e ∙ (r.found ∙ ap (λ k. Some k) (omega arith));
          there = r.there;
          within = omega (arith, r.within);
          passes = r.passes;
        }

-- a known name is that of the party of its index
pub name_found : (parties : List Party) (name : List ℕ) → is_party parties name ≡ true → (index_in parties name < length parties) × (party_name parties (index_in parties name) ≡ name)
name_found parties name h =
    let r = found_at (is_named name) 0 parties h in
    let index : index_in parties name ≡ r.index = ap (λ (o : Option ℕ). unwrap_or o 0) r.found ∙ omega arith in
    let named : party_name parties (index_in parties name) ≡ r.party.name = ap (λ k. party_name parties k) index ∙ ap name_in r.there in
    (omega (arith, index, r.within), named ∙ sym ((bytes_eq-Decides name r.party.name).0 r.passes))

-- ---- steps

all_push : {X : Type 0} (P : X → Type 0) (xs : List X) (x : X) → AllByRecursion P xs → P x → AllByRecursion P (xs ++ x ∷ [])
all_push P [] x h p = (p, tt)
all_push P (y ∷ ys) x h p = (h.0, all_push P ys x h.1 p)

pub ledgers_push : (before steps : List Step) (step : Step) → new_ledgers before (steps ++ step ∷ []) ≡ new_ledgers before steps + cond (is_on (before ++ steps) step.ledger) 0 1
ledgers_push before [] step = rw (append-nil before) (omega arith)
ledgers_push before (s ∷ steps) step =
    let joined : (before ++ s ∷ []) ++ steps ≡ before ++ s ∷ steps = append_assoc before (s ∷ []) steps in
    let more : new_ledgers (before ++ s ∷ []) (steps ++ step ∷ []) ≡ new_ledgers (before ++ s ∷ []) steps + cond (is_on (before ++ s ∷ steps) step.ledger) 0 1 =
    ledgers_push (before ++ s ∷ []) steps step ∙ ap (λ (xs : List Step). new_ledgers (before ++ s ∷ []) steps + cond (is_on xs step.ledger) 0 1) joined in
    omega (arith, more)

one_more_ledger : (on : Bool) (count all : ℕ) → count ≤ 8 → (not on && leb 8 count) ≡ false → all ≡ count + cond on 0 1 → all ≤ 8
one_more_ledger true count all few h e = omega (arith, few, e)
one_more_ledger false count all few h e = omega (arith, leb-false 8 count h, e)

total_small : (steps : List Step) (step : Step) → ltb (2 ^ 63 - 1) (total_of steps step.ledger step.asset + step.amount) ≡ false → ((ledger asset : List ℕ) → total_of steps ledger asset < 2 ^ 63) → (ledger asset : List ℕ) → total_of (steps ++ step ∷ []) ledger asset < 2 ^ 63
total_small steps step small was ledger asset = by_ledger (bytes_eq ledger step.ledger) refl
  where
    pushed : total_of (steps ++ step ∷ []) ledger asset ≡ total_of steps ledger asset + cond (bytes_eq ledger step.ledger && bytes_eq asset step.asset) step.amount 0
    pushed = sum_by_push (amount_if (is_of ledger asset)) steps step

    taken : (a b : Bool) → bytes_eq ledger step.ledger ≡ a → bytes_eq asset step.asset ≡ b → total_of (steps ++ step ∷ []) ledger asset ≡ total_of steps ledger asset + cond (a && b) step.amount 0
    taken a b e f = pushed ∙ ap (λ c. total_of steps ledger asset + cond (c && bytes_eq asset step.asset) step.amount 0) e ∙ ap (λ c. total_of steps ledger asset + cond (a && c) step.amount 0) f

    by_ledger : (b : Bool) → bytes_eq ledger step.ledger ≡ b → total_of (steps ++ step ∷ []) ledger asset < 2 ^ 63
    by_ledger false e = omega (arith, taken false (bytes_eq asset step.asset) e refl, was ledger asset)
    by_ledger true e = by_asset (bytes_eq asset step.asset) refl
      where
        by_asset : (b : Bool) → bytes_eq asset step.asset ≡ b → total_of (steps ++ step ∷ []) ledger asset < 2 ^ 63
        by_asset false f = omega (arith, taken true false e f, was ledger asset)
        by_asset true f =
            let same : total_of steps ledger asset ≡ total_of steps step.ledger step.asset =
            ap (λ (l : List ℕ). total_of steps l asset) ((bytes_eq-Decides ledger step.ledger).0 e) ∙ ap (λ (a : List ℕ). total_of steps step.ledger a) ((bytes_eq-Decides asset step.asset).0 f) in
            omega (arith, taken true true e f, same, ltb-false (2 ^ 63 - 1) (total_of steps step.ledger step.asset + step.amount) small)

pub step_kept : (n : ℕ) (parties : List Party) (steps : List Step) (step : NamedStep) → IsDraft parties steps → step_fault n parties steps step ≡ None → IsDraft parties (steps ++ with_indices parties step ∷ [])
step_kept n parties steps step h none =
    let good = good_step n parties steps step none in
    let from = name_found parties step.from good.from in
    let to = name_found parties step.to good.to in
    let made : Step = with_indices parties step in
    let apart : (made.from ≡ made.to) → ⊥ = λ e.
    true≢false (sym ((bytes_eq-Decides step.from step.to).1 (sym from.1 ∙ (ap (λ k. party_name parties k) e ∙ to.1))) ∙ good.different) in
    record {
      few_parties = h.few_parties;
      different = h.different;
      few_steps = omega (arith, length_push steps made, leb-false 64 (length steps) good.few);
      between = all_push (IsStepOf (length parties)) steps made h.between (record { from = from.0; to = to.0; different = apart; some = omega (arith, eqb-false step.amount 0 good.some) });
      few_ledgers = one_more_ledger (is_on steps step.ledger) (ledger_count steps) _ h.few_ledgers good.ninth (ledgers_push [] steps made);
      totals = total_small steps made good.small h.totals;
    }

-- ---- what a line says

pub party_taken : (draft : Draft) (said : DealLine) (party : Party) → said ≡ line.Party party → said_fault draft (Some said) ≡ None → IsDraft draft.parties draft.steps → IsDraft (draft.parties ++ party ∷ []) draft.steps
party_taken draft said party is none h =
    let a = unbroken _ _ _ (ap (λ (s : DealLine). said_fault draft (Some s)) (sym is) ∙ none) in
    party_kept _ draft.parties draft.steps party h (and_parts _ _ (not-false _ a.0)).1 a.1

pub step_taken : (draft : Draft) (said : DealLine) (step : NamedStep) → said ≡ line.Step step → said_fault draft (Some said) ≡ None → IsDraft draft.parties draft.steps → IsDraft draft.parties (draft.steps ++ with_indices draft.parties step ∷ [])
step_taken draft said step is none h =
    let a = unbroken _ _ _ (ap (λ (s : DealLine). said_fault draft (Some s)) (sym is) ∙ none) in
    step_kept _ draft.parties draft.steps step h a.1
