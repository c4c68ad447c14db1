-- Lists: what holds of each element, elements at places, and fronts.
use Rattle.std.proofs.Common.{◌≡◌, ℕ, zero, suc, ◌≤◌, Bool, true, false, cond, Option, Some, None, List, [], ◌∷◌, ◌++◌, length, Contains, slice_get, refl, ap, sym, ◌∙◌, subst, inl, inr, ◌⊎◌, ⊎_elim, arith, length-append}
use Rattle.std.specs.List.{AllByRecursion, find}
use Rattle.std.specs.Option.{option_map}
use Rattle.std.proofs.lemmas.List.{append-nil}
use Rattle.std.proofs.lemmas.List.Elements.{All-contains, All-from_recursion}
use mathlib.Core.List.{IsPrefix}
pub use Rattle.clear_core.proofs.Moved.{at_head, in_tail}
use Rattle.escrow_book.proofs.Sums.{all_weaker}
pub use Rattle.escrow_book.proofs.Sums.{all_append as every_append}

pub every_weaker : {A : Type 0} (P Q : A → Type 0) → ((x : A) → P x → Q x) → (xs : List A) → AllByRecursion P xs → AllByRecursion Q xs
every_weaker P Q f xs a = all_weaker P Q xs f a

pub every_at : {A : Type 0} (P : A → Type 0) (xs : List A) (x : A) → AllByRecursion P xs → Contains xs x → P x
every_at P xs x a h = All-contains P xs x (All-from_recursion P xs a) h

pub same_some : {X : Type 0} (x y : X) → Some x ≡ Some y → x ≡ y
same_some x y e = cc

pub mapped : {A B : Type 0} (f : A → B) (o : Option A) (y : B) → option_map f o ≡ Some y → (x : A) × (o ≡ Some x) × (f x ≡ y)
mapped f None y e = absurd cc
mapped f (Some x) y e = (x, refl, cc)

-- ---- elements at a place

pub get_append : {X : Type 0} (xs ys : List X) (q : ℕ) (x : X) → slice_get xs q ≡ Some x → slice_get (xs ++ ys) q ≡ Some x
get_append [] ys q x e = absurd cc
get_append (y ∷ xs) ys zero x e = e
get_append (y ∷ xs) ys (suc q) x e = get_append xs ys q x e

-- an element of one more is one of the list, or the last
pub get_push : {X : Type 0} (xs : List X) (y : X) (q : ℕ) (x : X) → slice_get (xs ++ y ∷ []) q ≡ Some x → (slice_get xs q ≡ Some x) ⊎ ((q ≡ length xs) × (y ≡ x))
get_push [] y zero x e = inr (refl, same_some y x e)
get_push [] y (suc q) x e = absurd cc
get_push (z ∷ xs) y zero x e = inl e
get_push (z ∷ xs) y (suc q) x e = ⊎_elim (λ (before : slice_get xs q ≡ Some x). inl before) (λ (last : (q ≡ length xs) × (y ≡ x)). inr (omega (arith, last.0), last.1)) (get_push xs y q x e)

pub get_contains : {X : Type 0} (xs : List X) (q : ℕ) (x : X) → slice_get xs q ≡ Some x → Contains xs x
get_contains [] q x e = absurd cc
get_contains (y ∷ xs) zero x e = subst (λ z. Contains (y ∷ xs) z) (same_some y x e) (at_head y xs)
get_contains (y ∷ xs) (suc q) x e = in_tail y xs x (get_contains xs q x e)

-- what is found stands in the list, and passes
pub find_gives : {X : Type 0} (test : X → Bool) (xs : List X) (x : X) → find test xs ≡ Some x → Contains xs x × (test x ≡ true)
find_gives test [] x e = absurd cc
find_gives test (y ∷ xs) x e = by_test (find_gives test xs x) (test y) refl e
  where
    by_test : (find test xs ≡ Some x → Contains xs x × (test x ≡ true)) → (b : Bool) → test y ≡ b → cond b (Some y) (find test xs) ≡ Some x → Contains (y ∷ xs) x × (test x ≡ true)
    by_test ih true is e = let same = same_some y x e in (subst (λ z. Contains (y ∷ xs) z) same (at_head y xs), ap test (sym same) ∙ is)
    by_test ih false is e = let r = ih e in (in_tail y xs x r.0, r.1)

-- ---- fronts

pub begins_longer : {X : Type 0} (x y : List X) → IsPrefix x y → length x ≤ length y
begins_longer x y p = omega (arith, length-append x p.0, ap length p.1)

-- a list that begins another, which is no longer, is that one
pub begins_same : {X : Type 0} (x y : List X) → IsPrefix x y → length y ≤ length x → x ≡ y
begins_same {X = X} x y p less = sym (append-nil x) ∙ (ap (λ l. x ++ l) (sym (empty p.0 (omega (arith, length-append x p.0, ap length p.1, less)))) ∙ p.1)
  where
    empty : (l : List X) → length l ≡ 0 → l ≡ []
    empty [] e = refl
    empty (z ∷ l) e = absurd (omega (arith, e))

-- two ways to part a list, of which the second is at an element: the first front ends before that
-- element, or holds it
pub parted : {X : Type 0} (front rest before : List X) (x : X) (behind : List X) → front ++ rest ≡ before ++ x ∷ behind → ((mid : List X) × (front ++ mid ≡ before)) ⊎ Contains front x
parted {X = X} [] rest before x behind e = inl (before, refl)
parted {X = X} (y ∷ front) rest [] x behind e = inr (subst (λ z. Contains (y ∷ front) z) (let same : y ≡ x = cc in same) (at_head y front))
parted {X = X} (y ∷ front) rest (z ∷ before) x behind e =
    let same : y ≡ z = cc in
    let rests : front ++ rest ≡ before ++ x ∷ behind = cc in
    ⊎_elim
    (λ (m : (mid : List X) × (front ++ mid ≡ before)). inl (m.0, cc (same, m.1)))
    (λ (c : Contains front x). inr (in_tail y front x c))
    (parted front rest before x behind rests)
