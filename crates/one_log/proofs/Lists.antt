-- Lists: what holds of each element, elements at places, and fronts.
use Rattle.std.proofs.Common.{◌≡◌, ℕ, zero, suc, Some, List, [], ◌∷◌, ◌++◌, take, drop, Contains, slice_get, refl, ap, sym, ◌∙◌, subst, inl, inr, ◌⊎◌, ⊎_elim, append_assoc, arith}
use Rattle.std.specs.List.{AllByRecursion}
use Rattle.std.proofs.lemmas.List.{take-append-drop}
use Rattle.std.proofs.lemmas.List.Elements.{All-contains, All-from_recursion}
use mathlib.Core.List.{IsPrefix}
use Rattle.vote_log.specs.Entry.{Entry}
use Rattle.one_log.specs.Houses.{OneBegins}

pub every_weaker : {A : Type 0} (P Q : A → Type 0) → ((x : A) → P x → Q x) → (xs : List A) → AllByRecursion P xs → AllByRecursion Q xs
every_weaker P Q f [] a = tt
every_weaker P Q f (x ∷ xs) a = (f x a.0, every_weaker P Q f xs a.1)

pub every_append : {A : Type 0} (P : A → Type 0) (xs ys : List A) → AllByRecursion P xs → AllByRecursion P ys → AllByRecursion P (xs ++ ys)
every_append P [] ys a b = b
every_append P (x ∷ xs) ys a b = (a.0, every_append P xs ys a.1 b)

pub every_at : {A : Type 0} (P : A → Type 0) (xs : List A) (x : A) → AllByRecursion P xs → Contains xs x → P x
every_at P xs x a h = All-contains P xs x (All-from_recursion P xs a) h

pub every_front : {A : Type 0} (P : A → Type 0) (n : ℕ) (xs : List A) → AllByRecursion P xs → AllByRecursion P (take n xs)
every_front P zero xs a = tt
every_front P (suc n) [] a = tt
every_front P (suc n) (x ∷ xs) a = (a.0, every_front P n xs a.1)

pub at_head : {X : Type 0} (x : X) (xs : List X) → Contains (x ∷ xs) x
at_head x xs = (0, omega arith, refl)

pub in_tail : {X : Type 0} (x : X) (xs : List X) (y : X) → Contains xs y → Contains (x ∷ xs) y
in_tail x xs y (k, lt, is) = (suc k, omega (arith, lt), is)

pub head_or_tail : {X : Type 0} (x : X) (xs : List X) (y : X) → Contains (x ∷ xs) y → (x ≡ y) ⊎ Contains xs y
head_or_tail x xs y (zero, lt, is) = inl is
head_or_tail x xs y (suc k, lt, is) = inr (k, omega (arith, lt), is)

pub none_in_empty : {X : Type 0} (y : X) → Contains [] y → ⊥
none_in_empty y (k, lt, is) = omega (arith, lt)

pub only : {X : Type 0} (x y : X) → Contains (x ∷ []) y → x ≡ y
only x y h = ⊎_elim (λ (is : x ≡ y). is) (λ (none : Contains [] y). absurd (none_in_empty y none)) (head_or_tail x [] y h)

pub same_some : {X : Type 0} (x y : X) → Some x ≡ Some y → x ≡ y
same_some x y e = cc

pub get_append : {X : Type 0} (xs ys : List X) (q : ℕ) (x : X) → slice_get xs q ≡ Some x → slice_get (xs ++ ys) q ≡ Some x
get_append [] ys q x e = absurd cc
get_append (y ∷ xs) ys zero x e = e
get_append (y ∷ xs) ys (suc q) x e = get_append xs ys q x e

pub get_contains : {X : Type 0} (xs : List X) (q : ℕ) (x : X) → slice_get xs q ≡ Some x → Contains xs x
get_contains [] q x e = absurd cc
get_contains (y ∷ xs) zero x e = subst (λ z. Contains (y ∷ xs) z) (same_some y x e) (at_head y xs)
get_contains (y ∷ xs) (suc q) x e = in_tail y xs x (get_contains xs q x e)

-- ---- fronts

pub take_begins : (n : ℕ) (l : List Entry) → IsPrefix (take n l) l
take_begins n l = (drop n l, take-append-drop n l)

pub begins_on : (x y z : List Entry) → IsPrefix x y → IsPrefix y z → IsPrefix x z
begins_on x y z p q = (p.0 ++ q.0, sym (append_assoc x p.0 q.0) ∙ (ap (λ v. v ++ q.0) p.1 ∙ q.1))

-- of two fronts of one list, one begins the other
pub two_begin : (x y l : List Entry) → IsPrefix x l → IsPrefix y l → OneBegins x y
two_begin [] y l p q = inl (y, refl)
two_begin (a ∷ x) [] l p q = inr (a ∷ x, refl)
two_begin (a ∷ x) (b ∷ y) [] p q = absurd (cc (p.1))
two_begin (a ∷ x) (b ∷ y) (c ∷ l) p q =
    let same : a ≡ b = cc (p.1, q.1) in
    ⊎_elim (λ (r : IsPrefix x y). inl (r.0, cc (same, r.1))) (λ (r : IsPrefix y x). inr (r.0, cc (same, r.1))) (two_begin x y l (p.0, cc (p.1)) (q.0, cc (q.1)))
