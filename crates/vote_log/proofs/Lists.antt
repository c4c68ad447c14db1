-- Elements of parts of a list, and the first that passes a test.
use Rattle.std.proofs.Common.{◌≡◌, ℕ, zero, suc, ◌+◌, ◌<◌, Bool, true, false, cond, Some, None, List, [], ◌∷◌, ◌++◌, length, take, drop, slice_get, refl, ap, sym, ◌∙◌, arith}
use Rattle.std.specs.List.{position_from}

pub get_after : {X : Type 0} (front : List X) (x : X) (rest : List X) → slice_get (front ++ x ∷ rest) (length front) ≡ Some x
get_after [] x rest = refl
get_after (y ∷ front) x rest = get_after front x rest

pub get_take : {X : Type 0} (l : List X) (n i : ℕ) → i < n → slice_get (take n l) i ≡ slice_get l i
get_take l zero i less = absurd (omega arith)
get_take [] (suc n) i less = refl
get_take (x ∷ l) (suc n) zero less = refl
get_take (x ∷ l) (suc n) (suc i) less = get_take l n i (omega arith)

pub get_take_within : {X : Type 0} (l : List X) (n i : ℕ) (x : X) → slice_get (take n l) i ≡ Some x → i < n
get_take_within l zero i x e = absurd cc
get_take_within [] (suc n) i x e = absurd cc
get_take_within (y ∷ l) (suc n) zero x e = omega arith
get_take_within (y ∷ l) (suc n) (suc i) x e = let ih = get_take_within l n i x e in omega arith

pub get_drop : {X : Type 0} (l : List X) (n i : ℕ) → slice_get (drop n l) i ≡ slice_get l (n + i)
get_drop l zero i = ap (slice_get l) (omega arith)
get_drop [] (suc n) i = refl
get_drop (x ∷ l) (suc n) i = let e : suc (n + i) ≡ suc n + i = omega arith in get_drop l n i ∙ ap (slice_get (x ∷ l)) e

pub take_one_more : {X : Type 0} (l : List X) (i : ℕ) (x : X) → slice_get l i ≡ Some x → take (suc i) l ≡ take i l ++ x ∷ []
take_one_more [] i x e = absurd cc
take_one_more (y ∷ l) zero x e = let same : y ≡ x = cc in ap (λ z. z ∷ []) same
take_one_more (y ∷ l) (suc i) x e = ap (λ r. y ∷ r) (take_one_more l i x e)

pub split_at : {X : Type 0} (l : List X) (i : ℕ) (x : X) → slice_get l i ≡ Some x → take i l ++ x ∷ drop (suc i) l ≡ l
split_at [] i x e = absurd cc
split_at (y ∷ l) zero x e = let same : y ≡ x = cc in ap (λ z. z ∷ l) (sym same)
split_at (y ∷ l) (suc i) x e = ap (λ r. y ∷ r) (split_at l i x e)

-- an element that passes stands at the place found
pub record Passes {X : Type 0} (t : X → Bool) (i : ℕ) (l : List X) (p : ℕ) : Type 0 where
  pub index : ℕ
  pub at : p ≡ i + index
  pub element : X
  pub here : slice_get l index ≡ Some element
  pub passes : t element ≡ true

pub position_found : {X : Type 0} (t : X → Bool) (i : ℕ) (l : List X) (p : ℕ) → position_from t i l ≡ Some p → Passes t i l p
position_found t i [] p e = absurd cc
position_found t i (x ∷ l) p e = go (t x) refl e (λ h. position_found t (i + 1) l p h)
  where
    go : (b : Bool) → t x ≡ b → cond b (Some i) (position_from t (i + 1) l) ≡ Some p → (position_from t (i + 1) l ≡ Some p → Passes t (i + 1) l p) → Passes t i (x ∷ l) p
    go true is e next = let same : i ≡ p = cc in record { index = 0; at = omega arith; element = x; here = refl; passes = is }
    go false is e next = let ih = next e in record { index = suc ih.index; at = omega (arith, ih.at); element = ih.element; here = ih.here; passes = ih.passes }

pub position_none : {X : Type 0} (t : X → Bool) (i : ℕ) (l : List X) → position_from t i l ≡ None → (k : ℕ) (x : X) → slice_get l k ≡ Some x → t x ≡ false
position_none t i [] e k x h = absurd cc
position_none t i (y ∷ l) e k x h = go (t y) refl e k h (λ n j g. position_none t (i + 1) l n j x g)
  where
    go : (b : Bool) → t y ≡ b → cond b (Some i) (position_from t (i + 1) l) ≡ None → (k : ℕ) → slice_get (y ∷ l) k ≡ Some x → (position_from t (i + 1) l ≡ None → (j : ℕ) → slice_get l j ≡ Some x → t x ≡ false) → t x ≡ false
    go true is e k h next = absurd cc
    go false is e zero h next = let same : y ≡ x = cc in ap t (sym same) ∙ is
    go false is e (suc k) h next = next e k h
