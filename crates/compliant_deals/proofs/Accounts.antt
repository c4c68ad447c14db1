-- The parties of a deal have different accounts.
use Rattle.std.proofs.Common.{◌≡◌, ℕ, zero, suc, ◌<◌, ◌==◌, leb, Bool, true, false, not, ◌&&◌, ◌||◌, List, [], ◌∷◌, ◌++◌, length, map, refl, ap, sym, ◌∙◌, arith}
use Rattle.std.specs.List.{list_any}
use Rattle.std.proofs.lemmas.Bool.{eq-eqb, ne_eqb, eqb-true, eqb-false, or_parts, or_from, or_left, or_right, and_from, le-leb}
use Rattle.std.proofs.lemmas.List.{length-map}
use Rattle.std.proofs.lemmas.List.Folds.{list_any-append}
use Rattle.dh_base.specs.Ids.{same_id}
use Rattle.dh_base.specs.declared.id.Id.{Id}
use Rattle.dh_base.proofs.SameIds.{same_id-self, same_id-swap}
use Rattle.escrow_book.specs.History.{is_in}
use Rattle.escrow_book.specs.Reached.{are_different, are_parties}
use Rattle.deal_core.specs.Deals.{DealTold, has_account}
use Rattle.deal_core.specs.Kept.{AreNewBehind, IsDeal}
use Rattle.deal_core.specs.declared.party.Party.{Party}
use Rattle.joined_deals.specs.DealTexts.{account_of}

abbrev pub accounts_of : DealTold → List Id
accounts_of deal = map (λ (party : Party). party.account) deal.parties

push_false : {X : Type 0} (test : X → Bool) (xs : List X) (y : X) → list_any test (xs ++ y ∷ []) ≡ false → (list_any test xs ≡ false) × (test y ≡ false)
push_false test xs y e =
    let one = or_parts (list_any test xs) (test y || false) (sym (list_any-append test xs (y ∷ [])) ∙ e) in
    (one.0, (or_parts (test y) false one.1).0)

not_before : (before parties : List Party) → AreNewBehind before parties → (k : ℕ) → k < length parties → list_any (has_account (account_of parties k)) before ≡ false
not_before before [] new k lt = absurd (omega (arith, lt))
not_before before (p ∷ parties) new zero lt = new.1
not_before before (p ∷ parties) new (suc k) lt = (push_false (has_account (account_of parties k)) before p (not_before (before ++ p ∷ []) parties new.2 k (omega (arith, lt)))).0

not_first : (before : List Party) (p : Party) (parties : List Party) → AreNewBehind before (p ∷ parties) → (k : ℕ) → k < length parties → same_id (account_of parties k) p.account ≡ false
not_first before p parties new k lt = (push_false (has_account (account_of parties k)) before p (not_before (before ++ p ∷ []) parties new.2 k lt)).1

differ : (before parties : List Party) → AreNewBehind before parties → (j k : ℕ) → j < length parties → k < length parties → same_id (account_of parties j) (account_of parties k) ≡ (j == k)
differ before [] new j k lj lk = absurd (omega (arith, lj))
differ before (p ∷ parties) new zero zero lj lk = same_id-self p.account ∙ sym (eq-eqb 0 0 refl)
differ before (p ∷ parties) new zero (suc k) lj lk =
    let apart : 0 ≡ suc k → ⊥ = λ e. omega (arith, e) in
    same_id-swap p.account (account_of parties k) ∙ (not_first before p parties new k (omega (arith, lk)) ∙ sym (ne_eqb 0 (suc k) apart))
differ before (p ∷ parties) new (suc j) zero lj lk =
    let apart : suc j ≡ 0 → ⊥ = λ e. omega (arith, e) in
    not_first before p parties new j (omega (arith, lj)) ∙ sym (ne_eqb (suc j) 0 apart)
differ before (p ∷ parties) new (suc j) (suc k) lj lk =
    differ (before ++ p ∷ []) parties new.2 j k (omega (arith, lj)) (omega (arith, lk)) ∙ by_test (j == k) refl
  where
    by_test : (t : Bool) → (j == k) ≡ t → t ≡ (suc j == suc k)
    by_test true is = sym (eq-eqb (suc j) (suc k) (ap (λ i. suc i) (eqb-true j k is)))
    by_test false is =
        let apart : j ≡ k → ⊥ = eqb-false j k is in
        sym (ne_eqb (suc j) (suc k) (λ e. apart (omega (arith, e))))

pub accounts_differ : (deal : DealTold) → IsDeal deal → (j k : ℕ) → j < length deal.parties → k < length deal.parties → same_id (account_of deal.parties j) (account_of deal.parties k) ≡ (j == k)
accounts_differ deal d j k lj lk = differ [] deal.parties d.kept.different j k lj lk

account_in_map : (parties : List Party) (k : ℕ) → k < length parties → is_in (account_of parties k) (map (λ (p : Party). p.account) parties) ≡ true
account_in_map [] k lt = absurd (omega (arith, lt))
account_in_map (p ∷ parties) zero lt = or_left (same_id p.account p.account) (list_any (same_id p.account) (map (λ (q : Party). q.account) parties)) (same_id-self p.account)
account_in_map (p ∷ parties) (suc k) lt = or_right (same_id (account_of parties k) p.account) (list_any (same_id (account_of parties k)) (map (λ (q : Party). q.account) parties)) (account_in_map parties k (omega (arith, lt)))

pub is_account : (deal : DealTold) (k : ℕ) → k < length deal.parties → is_in (account_of deal.parties k) (accounts_of deal) ≡ true
is_account deal k lt = account_in_map deal.parties k lt

none_same : (a : Id) (parties : List Party) → ((k : ℕ) → k < length parties → same_id a (account_of parties k) ≡ false) → list_any (same_id a) (map (λ (p : Party). p.account) parties) ≡ false
none_same a [] h = refl
none_same a (p ∷ parties) h = or_from (same_id a p.account) (list_any (same_id a) (map (λ (q : Party). q.account) parties)) (h 0 (omega arith)) (none_same a parties (λ k lt. h (suc k) (omega (arith, lt))))

all_different : (before parties : List Party) → AreNewBehind before parties → are_different (map (λ (p : Party). p.account) parties) ≡ true
all_different before [] new = refl
all_different before (p ∷ parties) new =
    and_from (not (is_in p.account (map (λ (q : Party). q.account) parties))) (are_different (map (λ (q : Party). q.account) parties))
    (ap not (none_same p.account parties (λ k lt. same_id-swap p.account (account_of parties k) ∙ not_first before p parties new k lt)))
    (all_different (before ++ p ∷ []) parties new.2)

pub good_parties : (deal : DealTold) → IsDeal deal → are_parties (accounts_of deal) ≡ true
good_parties deal d =
    let size : length (accounts_of deal) ≡ length deal.parties = length-map deal.parties (λ (p : Party). p.account) in
    and_from (leb 2 (length (accounts_of deal))) (leb (length (accounts_of deal)) 16 && are_different (accounts_of deal))
    (le-leb 2 (length (accounts_of deal)) (omega (arith, size, d.parties)))
    (and_from (leb (length (accounts_of deal)) 16) (are_different (accounts_of deal)) (le-leb (length (accounts_of deal)) 16 (omega (arith, size, d.kept.few_parties))) (all_different [] deal.parties d.kept.different))
