-- Names that compare as equal are the same.
use Rattle.std.proofs.Common.{◌≡◌, ℕ, List, [], ◌∷◌, ◌||◌, refl, ap, ◌∙◌, arith}
use Rattle.std.specs.List.{list_any}
use Rattle.std.specs.Str.{bytes_eq}
use Rattle.std.specs.Ordering.{nat_cmp, is_eq}
use Rattle.std.specs.Cmp.Lexicographic.{slice_cmp}
use Rattle.std.specs.BTreeMap.{is_at}
use Rattle.std.proofs.lemmas.Cmp.{same_from_slice_cmp}
use Rattle.std.proofs.lemmas.Bool.Decides.{nat_tests}

pub compared_same : (a b : List ℕ) → is_eq (slice_cmp nat_cmp a b) ≡ bytes_eq a b
compared_same a b = same_from_slice_cmp nat_cmp is_eq bytes_eq refl (λ _ _. refl) (λ _ _. refl) (λ x y xs ys o h. grind (arith, nat_tests)) a b (slice_cmp nat_cmp a b) refl

pub among_same : (a : List ℕ) (names : List (List ℕ)) → list_any (is_at (slice_cmp nat_cmp a)) names ≡ list_any (bytes_eq a) names
among_same a [] = refl
among_same a (n ∷ ns) = ap (λ b. b || list_any (is_at (slice_cmp nat_cmp a)) ns) (compared_same a n) ∙ ap (λ b. bytes_eq a n || b) (among_same a ns)
