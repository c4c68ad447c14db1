-- Names that are as many once they stand in order, each once, are different.
use Rattle.std.proofs.Common.{◌≡◌, ℕ, ◌+◌, ◌≤◌, Bool, true, false, not, ◌&&◌, ◌||◌, Ordering, Less, Equal, Greater, List, [], ◌∷◌, length, refl, sym, ap, subst, ◌∙◌, arith, ◌⊎◌, inl, inr, ⊎_elim}
use Rattle.std.specs.List.{list_any}
use Rattle.std.specs.Str.{bytes_eq}
use Rattle.std.specs.Ordering.{nat_cmp, is_eq, ordering_reverse, match_ordering}
use Rattle.std.specs.Cmp.Lexicographic.{slice_cmp}
use Rattle.std.specs.BTreeSet.{insert_key}
use Rattle.std.proofs.lemmas.Bool.{and_from, eqb-true, or_from, or_left, or_right, or_cases, not_from_false, false_from_ne_true, both_ways}
use Rattle.std.proofs.lemmas.Cmp.{nat_list_cmp_total}
use Rattle.std.proofs.lemmas.Slice.Eq.{bytes_eq-Decides}
use Rattle.plain_script.specs.BoundNames.{with_names, in_order, are_different}
use Rattle.plain_script.proofs.NamesSame.{compared_same}

-- ---- names in ascending order

abbrev name_cmp : List ℕ → List ℕ → Ordering
name_cmp a b = slice_cmp nat_cmp a b

abbrev IsBelow : List ℕ → List (List ℕ) → Type 0
IsBelow name [] = Unit {0}
IsBelow name (n ∷ ns) = (name_cmp name n ≡ Less) × IsBelow name ns

abbrev IsAscending : List (List ℕ) → Type 0
IsAscending [] = Unit {0}
IsAscending (n ∷ ns) = IsBelow n ns × IsAscending ns

-- the names with one more at its place, each once
abbrev with_name : List (List ℕ) → List ℕ → List (List ℕ)
with_name ns name = insert_key (slice_cmp nat_cmp) ns name

-- no name stands again behind itself
abbrev pub each_once : List (List ℕ) → Bool
each_once [] = true
each_once (n ∷ ns) = not (list_any (bytes_eq n) ns) && each_once ns

same_if_equal : (a b : List ℕ) → name_cmp a b ≡ Equal → a ≡ b
same_if_equal a b e = (bytes_eq-Decides a b).0 (sym (compared_same a b) ∙ ap is_eq e)

apart_if_less : (a b : List ℕ) → name_cmp a b ≡ Less → bytes_eq a b ≡ false
apart_if_less a b e = sym (compared_same a b) ∙ ap is_eq e

turned : (a b : List ℕ) → name_cmp a b ≡ Greater → name_cmp b a ≡ Less
turned a b e = nat_list_cmp_total.antisymm b a ∙ ap ordering_reverse e

below_more : (a b : List ℕ) (ns : List (List ℕ)) → name_cmp a b ≡ Less → IsBelow b ns → IsBelow a ns
below_more a b [] e below = tt
below_more a b (n ∷ ns) e below = (nat_list_cmp_total.trans a b n e below.0, below_more a b ns e below.1)

absent_below : (a : List ℕ) (ns : List (List ℕ)) → IsBelow a ns → list_any (bytes_eq a) ns ≡ false
absent_below a [] below = refl
absent_below a (n ∷ ns) below = or_from (bytes_eq a n) (list_any (bytes_eq a) ns) (apart_if_less a n below.0) (absent_below a ns below.1)

-- what the names are with one more, by how it compares with the first of them
inserted : (name n : List ℕ) (ns : List (List ℕ)) (o : Ordering) → name_cmp name n ≡ o → with_name (n ∷ ns) name ≡ match_ordering o (name ∷ n ∷ ns) (n ∷ ns) (n ∷ with_name ns name)
inserted name n ns o e = ap (λ c. match_ordering c (name ∷ n ∷ ns) (n ∷ ns) (n ∷ with_name ns name)) e

below_with : (a name : List ℕ) (ns : List (List ℕ)) → name_cmp a name ≡ Less → IsBelow a ns → IsBelow a (with_name ns name)
below_with a name [] e below = (e, tt)
below_with a name (n ∷ ns) e below = by (name_cmp name n) refl (below_with a name ns e below.1)
  where
    by : (o : Ordering) → name_cmp name n ≡ o → IsBelow a (with_name ns name) → IsBelow a (with_name (n ∷ ns) name)
    by Less c rest = subst (IsBelow a) (sym (inserted name n ns Less c)) (e, below)
    by Equal c rest = subst (IsBelow a) (sym (inserted name n ns Equal c)) below
    by Greater c rest = subst (IsBelow a) (sym (inserted name n ns Greater c)) (below.0, rest)

ascending_with : (name : List ℕ) (ns : List (List ℕ)) → IsAscending ns → IsAscending (with_name ns name)
ascending_with name [] up = (tt, tt)
ascending_with name (n ∷ ns) up = by (name_cmp name n) refl (ascending_with name ns up.1)
  where
    by : (o : Ordering) → name_cmp name n ≡ o → IsAscending (with_name ns name) → IsAscending (with_name (n ∷ ns) name)
    by Less c rest = subst IsAscending (sym (inserted name n ns Less c)) ((c, below_more name n ns c up.0), up)
    by Equal c rest = subst IsAscending (sym (inserted name n ns Equal c)) up
    by Greater c rest = subst IsAscending (sym (inserted name n ns Greater c)) (below_with n name ns (turned name n c) up.0, rest)

length_with : (name : List ℕ) (ns : List (List ℕ)) → length (with_name ns name) ≤ length ns + 1
length_with name [] = omega arith
length_with name (n ∷ ns) = by (name_cmp name n) refl (length_with name ns)
  where
    by : (o : Ordering) → name_cmp name n ≡ o → length (with_name ns name) ≤ length ns + 1 → length (with_name (n ∷ ns) name) ≤ length (n ∷ ns) + 1
    by Less c rest = omega (arith, ap length (inserted name n ns Less c))
    by Equal c rest = omega (arith, ap length (inserted name n ns Equal c))
    by Greater c rest = omega (arith, ap length (inserted name n ns Greater c), rest)

-- A name that stands there already is lost.
lost_if_known : (name : List ℕ) (ns : List (List ℕ)) → IsAscending ns → list_any (bytes_eq name) ns ≡ true → with_name ns name ≡ ns
lost_if_known name [] up known = absurd cc
lost_if_known name (n ∷ ns) up known = by (name_cmp name n) refl (λ later. lost_if_known name ns up.1 later)
  where
    by : (o : Ordering) → name_cmp name n ≡ o → (list_any (bytes_eq name) ns ≡ true → with_name ns name ≡ ns) → with_name (n ∷ ns) name ≡ n ∷ ns
    by Less c rest =
        let absent : list_any (bytes_eq name) (n ∷ ns) ≡ false = absent_below name (n ∷ ns) (c, below_more name n ns c up.0) in
        absurd (both_ways _ absent known)
    by Equal c rest = inserted name n ns Equal c
    by Greater c rest =
        let other : bytes_eq name n ≡ false = sym (compared_same name n) ∙ ap is_eq c in
        let later : list_any (bytes_eq name) ns ≡ true = ap (λ b. b || list_any (bytes_eq name) ns) (sym other) ∙ known in
        inserted name n ns Greater c ∙ ap (λ (others : List (List ℕ)). n ∷ others) (rest later)

-- who stands there with one more
known_with : (q name : List ℕ) (ns : List (List ℕ)) → (list_any (bytes_eq q) ns ≡ true) ⊎ (q ≡ name) → list_any (bytes_eq q) (with_name ns name) ≡ true
known_with q name [] (inl e) = absurd cc
known_with q name [] (inr e) = or_left (bytes_eq q name) _ ((bytes_eq-Decides q name).1 e)
known_with q name (n ∷ ns) k = by (name_cmp name n) refl k (λ earlier. known_with q name ns earlier)
  where
    by : (o : Ordering) → name_cmp name n ≡ o → (list_any (bytes_eq q) (n ∷ ns) ≡ true) ⊎ (q ≡ name) → ((list_any (bytes_eq q) ns ≡ true) ⊎ (q ≡ name) → list_any (bytes_eq q) (with_name ns name) ≡ true) → list_any (bytes_eq q) (with_name (n ∷ ns) name) ≡ true
    by Less c (inl e) rest = ap (list_any (bytes_eq q)) (inserted name n ns Less c) ∙ or_right (bytes_eq q name) (list_any (bytes_eq q) (n ∷ ns)) e
    by Less c (inr e) rest = ap (list_any (bytes_eq q)) (inserted name n ns Less c) ∙ or_left (bytes_eq q name) (list_any (bytes_eq q) (n ∷ ns)) ((bytes_eq-Decides q name).1 e)
    by Equal c (inl e) rest = ap (list_any (bytes_eq q)) (inserted name n ns Equal c) ∙ e
    by Equal c (inr e) rest = ap (list_any (bytes_eq q)) (inserted name n ns Equal c) ∙ or_left (bytes_eq q n) (list_any (bytes_eq q) ns) ((bytes_eq-Decides q n).1 (e ∙ same_if_equal name n c))
    by Greater c (inl e) rest =
        ap (list_any (bytes_eq q)) (inserted name n ns Greater c)
        ∙ ⊎_elim (λ here. or_left (bytes_eq q n) (list_any (bytes_eq q) (with_name ns name)) here)
        (λ later. or_right (bytes_eq q n) (list_any (bytes_eq q) (with_name ns name)) (rest (inl later)))
        (or_cases (bytes_eq q n) (list_any (bytes_eq q) ns) e)
    by Greater c (inr e) rest = ap (list_any (bytes_eq q)) (inserted name n ns Greater c) ∙ or_right (bytes_eq q n) (list_any (bytes_eq q) (with_name ns name)) (rest (inr e))

-- ---- as many in order, each once

length_all : (known names : List (List ℕ)) → length (with_names known names) ≤ length known + length names
length_all known [] = omega arith
length_all known (n ∷ ns) = omega (arith, length_all (with_name known n) ns, length_with n known)

-- Where no name is lost, a name that is put in isn't known before.
new_if_kept : (n : List ℕ) (known ns : List (List ℕ)) → IsAscending known → length (with_names known (n ∷ ns)) ≡ length known + length (n ∷ ns) → list_any (bytes_eq n) known ≡ false
new_if_kept n known ns up kept =
    false_from_ne_true (list_any (bytes_eq n) known) (λ stands. omega (arith, length_all (with_name known n) ns, ap length (lost_if_known n known up stands), kept))

rest_kept : (n : List ℕ) (known ns : List (List ℕ)) → length (with_names known (n ∷ ns)) ≡ length known + length (n ∷ ns) → length (with_names (with_name known n) ns) ≡ length (with_name known n) + length ns
rest_kept n known ns kept = omega (arith, length_all (with_name known n) ns, length_with n known, kept)

-- Where no name is lost, each stands once, and none was known before.
kept_once : (known names : List (List ℕ)) → IsAscending known → length (with_names known names) ≡ length known + length names → (each_once names ≡ true) × ((q : List ℕ) → list_any (bytes_eq q) known ≡ true → list_any (bytes_eq q) names ≡ false)
kept_once known [] up kept = (refl, λ q stands. refl)
kept_once known (n ∷ ns) up kept =
    let rest : (each_once ns ≡ true) × ((q : List ℕ) → list_any (bytes_eq q) (with_name known n) ≡ true → list_any (bytes_eq q) ns ≡ false) = kept_once (with_name known n) ns (ascending_with n known up) (rest_kept n known ns kept) in
    let new : list_any (bytes_eq n) known ≡ false = new_if_kept n known ns up kept in (
      and_from (not (list_any (bytes_eq n) ns)) (each_once ns) (not_from_false (list_any (bytes_eq n) ns) (rest.1 n (known_with n n known (inr refl)))) rest.0,
      λ q stands. or_from (bytes_eq q n) (list_any (bytes_eq q) ns)
          (false_from_ne_true (bytes_eq q n) (λ e. both_ways (list_any (bytes_eq n) known) new (subst (λ (m : List ℕ). list_any (bytes_eq m) known ≡ true) ((bytes_eq-Decides q n).0 e) stands)))
          (rest.1 q (known_with q n known (inl stands))),
    )

pub once_if_different : (names : List (List ℕ)) → are_different names ≡ true → each_once names ≡ true
once_if_different names e = (kept_once [] names tt (omega (arith, eqb-true (length (in_order names)) (length names) e))).0
