-- Places of lists.
use Rattle.std.proofs.Common.{◌≡◌, ℕ, zero, suc, ◌<◌, ◌⊎◌, inl, inr, Some, List, [], ◌∷◌, ◌++◌, length, slice_get, refl, arith}

pub get_below : {X : Type 0} (xs : List X) (k : ℕ) (x : X) → slice_get xs k ≡ Some x → k < length xs
get_below [] k x there = absurd cc
get_below (y ∷ xs) zero x there = omega arith
get_below (y ∷ xs) (suc k) x there = let rest = get_below xs k x there in omega (arith, rest)

pub get_front : {X : Type 0} (xs ys : List X) (k : ℕ) (x : X) → slice_get xs k ≡ Some x → slice_get (xs ++ ys) k ≡ Some x
get_front [] ys k x there = absurd cc
get_front (y ∷ xs) ys zero x there = there
get_front (y ∷ xs) ys (suc k) x there = get_front xs ys k x there

pub get_next : {X : Type 0} (xs : List X) (y : X) (ys : List X) → slice_get (xs ++ y ∷ ys) (length xs) ≡ Some y
get_next [] y ys = refl
get_next (x ∷ xs) y ys = get_next xs y ys

pub below_or_last : (n j : ℕ) → j < suc n → (j < n) ⊎ (j ≡ n)
below_or_last zero zero less = inr refl
below_or_last zero (suc j) less = absurd (omega (arith, less))
below_or_last (suc n) zero less = inl (omega arith)
below_or_last (suc n) (suc j) less = elim (below_or_last n j (omega (arith, less))) [ inl before ↦ inl (omega (arith, before)) | inr last ↦ inr (omega (arith, last)) ]
