-- Elements of lists, and sums and counts over them.
use Rattle.std.proofs.Common.{◌≡◌, ℕ, zero, suc, ◌+◌, ◌<◌, ◌≤◌, ◌⊎◌, inl, inr, Bool, true, false, cond, ◌||◌, List, [], ◌∷◌, ◌++◌, map, length, slice_get, Option, Some, None, arith, refl, sym, ap, subst, ◌∙◌}
use Rattle.std.specs.List.{Contains, AllByRecursion, find, list_any, sum_by, count_by}
use Rattle.std.proofs.lemmas.List.Sums.{sum_by-append, sum_by-cons}
use Rattle.clear_core.proofs.Moved.{at_head, in_tail, head_or_tail, none_in_empty}

-- ---- elements

pub in_front : {X : Type 0} (xs ys : List X) (x : X) → Contains xs x → Contains (xs ++ ys) x
in_front [] ys x here = absurd (none_in_empty x here)
in_front (y ∷ xs) ys x here = elim (head_or_tail y xs x here) [
  | inl is ↦ subst (λ (z : _). Contains (y ∷ (xs ++ ys)) z) is (at_head y (xs ++ ys))
  | inr later ↦ in_tail y (xs ++ ys) x (in_front xs ys x later)
]

pub in_back : {X : Type 0} (xs ys : List X) (x : X) → Contains ys x → Contains (xs ++ ys) x
in_back [] ys x here = here
in_back (y ∷ xs) ys x here = in_tail y (xs ++ ys) x (in_back xs ys x here)

pub in_either : {X : Type 0} (xs ys : List X) (x : X) → Contains (xs ++ ys) x → Contains xs x ⊎ Contains ys x
in_either [] ys x here = inr here
in_either (y ∷ xs) ys x here = elim (head_or_tail y (xs ++ ys) x here) [
  | inl is ↦ inl (subst (λ (z : _). Contains (y ∷ xs) z) is (at_head y xs))
  | inr later ↦ elim (in_either xs ys x later) [ inl front ↦ inl (in_tail y xs x front) | inr back ↦ inr back ]
]

pub only_one : {X : Type 0} (y x : X) → Contains (y ∷ []) x → y ≡ x
only_one y x here = elim (head_or_tail y [] x here) [ inl is ↦ is | inr later ↦ absurd (none_in_empty x later) ]

pub old_or_last : {X : Type 0} (xs : List X) (y x : X) → Contains (xs ++ y ∷ []) x → Contains xs x ⊎ (y ≡ x)
old_or_last xs y x here = elim (in_either xs (y ∷ []) x here) [ inl front ↦ inl front | inr back ↦ inr (only_one y x back) ]

pub is_last : {X : Type 0} (xs : List X) (y : X) → Contains (xs ++ y ∷ []) y
is_last xs y = in_back xs (y ∷ []) y (at_head y [])

-- an element of a list of values is that of an element
pub of_map : {X Y : Type 0} (f : X → Y) (xs : List X) (y : Y) → Contains (map f xs) y → (x : X) × Contains xs x × (y ≡ f x)
of_map f [] y here = absurd (none_in_empty y here)
of_map f (x ∷ xs) y here = elim (head_or_tail (f x) (map f xs) y here) [
  | inl is ↦ (x, at_head x xs, sym is)
  | inr later ↦ let there = of_map f xs y later in (there.0, in_tail x xs there.0 there.1, there.2)
]

pub each_of : {X : Type 0} (P : X → Type 0) (xs : List X) → AllByRecursion P xs → (x : X) → Contains xs x → P x
each_of P [] all x here = absurd (none_in_empty x here)
each_of P (y ∷ xs) all x here = elim (head_or_tail y xs x here) [ inl is ↦ subst P is all.0 | inr later ↦ each_of P xs all.1 x later ]

pub all_of : {X : Type 0} (P : X → Type 0) (xs : List X) → ((x : X) → Contains xs x → P x) → AllByRecursion P xs
all_of P [] each = tt
all_of P (y ∷ xs) each = (each y (at_head y xs), all_of P xs (λ x here. each x (in_tail y xs x here)))

-- ---- places

pub stands_in : {X : Type 0} (xs : List X) (k : ℕ) (x : X) → slice_get xs k ≡ Some x → Contains xs x
stands_in [] k x there = absurd cc
stands_in (y ∷ xs) zero x there = subst (λ (z : _). Contains (y ∷ xs) z) (let e : Some y ≡ Some x = there in cc) (at_head y xs)
stands_in (y ∷ xs) (suc k) x there = in_tail y xs x (stands_in xs k x there)

-- a place of a list with one more at its end is an old one or the last
pub place_in : {X : Type 0} (xs : List X) (y x : X) (k : ℕ) → slice_get (xs ++ y ∷ []) k ≡ Some x → ((k < length xs) × (slice_get xs k ≡ Some x)) ⊎ ((k ≡ length xs) × (y ≡ x))
place_in [] y x zero there = inr (refl, (let e : Some y ≡ Some x = there in cc))
place_in [] y x (suc k) there = absurd (let e : None ≡ Some x = there in cc)
place_in (z ∷ xs) y x zero there = inl (omega arith, there)
place_in (z ∷ xs) y x (suc k) there = elim (place_in xs y x k there) [
  | inl old ↦ inl (omega (arith, old.0), old.1)
  | inr last ↦ inr (omega (arith, last.0), last.1)
]

-- ---- what is found

pub found_in : {X : Type 0} (test : X → Bool) (xs : List X) (x : X) → find test xs ≡ Some x → Contains xs x × (test x ≡ true)
found_in test [] x found = absurd cc
found_in test (y ∷ xs) x found = go (test y) refl (found_in test xs x) found
  where
    go : (passes : Bool) → test y ≡ passes → (find test xs ≡ Some x → Contains xs x × (test x ≡ true)) → cond passes (Some y) (find test xs) ≡ Some x → Contains (y ∷ xs) x × (test x ≡ true)
    go true is rest e = let same : y ≡ x = (let s : Some y ≡ Some x = e in cc) in (subst (λ (z : _). Contains (y ∷ xs) z) same (at_head y xs), subst (λ (z : _). test z ≡ true) same is)
    go false is rest e = let later = rest e in (in_tail y xs x later.0, later.1)

pub none_found : {X : Type 0} (test : X → Bool) (xs : List X) → find test xs ≡ None → (x : X) → Contains xs x → test x ≡ false
none_found test [] none x here = absurd (none_in_empty x here)
none_found test (y ∷ xs) none x here = go (test y) refl (λ n later. none_found test xs n x later) none
  where
    go : (passes : Bool) → test y ≡ passes → (find test xs ≡ None → Contains xs x → test x ≡ false) → cond passes (Some y) (find test xs) ≡ None → test x ≡ false
    go true is rest e = absurd (let s : Some y ≡ None = e in cc)
    go false is rest e = elim (head_or_tail y xs x here) [ inl same ↦ subst (λ (z : _). test z ≡ false) same is | inr later ↦ rest e later ]

or_true : (b : Bool) → b || true ≡ true
or_true true = refl
or_true false = refl

pub any_of : {X : Type 0} (test : X → Bool) (xs : List X) (x : X) → Contains xs x → test x ≡ true → list_any test xs ≡ true
any_of test [] x here passes = absurd (none_in_empty x here)
any_of test (y ∷ xs) x here passes = elim (head_or_tail y xs x here) [
  | inl same ↦ ap (λ (b : Bool). b || list_any test xs) (subst (λ (z : _). test z ≡ true) (sym same) passes)
  | inr later ↦ ap (λ (b : Bool). test y || b) (any_of test xs x later passes) ∙ or_true (test y)
]

pub one_of_any : {X : Type 0} (test : X → Bool) (xs : List X) → list_any test xs ≡ true → (x : X) × Contains xs x × (test x ≡ true)
one_of_any test [] any = absurd (let e : false ≡ true = any in cc)
one_of_any test (y ∷ xs) any = go (test y) refl (one_of_any test xs) any
  where
    go : (passes : Bool) → test y ≡ passes → (list_any test xs ≡ true → (x : _) × Contains xs x × (test x ≡ true)) → passes || list_any test xs ≡ true → (x : _) × Contains (y ∷ xs) x × (test x ≡ true)
    go true is later e = (y, at_head y xs, is)
    go false is later e = let there = later e in (there.0, in_tail y xs there.0 there.1, there.2)

-- ---- counts and sums

pub count_by-append : {X : Type 0} (p : X → Bool) (xs ys : List X) → count_by p (xs ++ ys) ≡ count_by p xs + count_by p ys
count_by-append p xs ys = sum_by-append (λ x. cond (p x) 1 0) xs ys

-- where each value is at most another, so is the sum
pub sum_le : {X : Type 0} (f g : X → ℕ) (xs : List X) → ((x : X) → f x ≤ g x) → sum_by f xs ≤ sum_by g xs
sum_le f g [] each = omega arith
sum_le f g (x ∷ xs) each = let rest = sum_le f g xs each in let one = each x in omega (arith, sum_by-cons f x xs, sum_by-cons g x xs)

-- where one of them is less, so is the sum
pub sum_lt : {X : Type 0} (f g : X → ℕ) (xs : List X) (y : X) → ((x : X) → f x ≤ g x) → Contains xs y → f y < g y → sum_by f xs < sum_by g xs
sum_lt f g [] y each here less = absurd (none_in_empty y here)
sum_lt f g (x ∷ xs) y each here less = elim (head_or_tail x xs y here) [
  | inl same ↦ (let rest = sum_le f g xs each in let one : f x < g x = subst (λ (z : _). f z < g z) (sym same) less in omega (arith, sum_by-cons f x xs, sum_by-cons g x xs))
  | inr later ↦ (let rest = sum_lt f g xs y each later less in let one = each x in omega (arith, sum_by-cons f x xs, sum_by-cons g x xs))
]

-- what is asked of some elements, each once, is at most what is asked of all
pub part_of_sum : {X : Type 0} (f : X → ℕ) (xs : List X) (y : X) → Contains xs y → f y ≤ sum_by f xs
part_of_sum f [] y here = absurd (none_in_empty y here)
part_of_sum f (x ∷ xs) y here = elim (head_or_tail x xs y here) [
  | inl same ↦ (let one : f x ≡ f y = ap f same in omega (arith, sum_by-cons f x xs))
  | inr later ↦ (let rest = part_of_sum f xs y later in omega (arith, sum_by-cons f x xs))
]
