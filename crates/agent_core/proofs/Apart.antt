-- Lists of different items, and sums over parts of a list.
use Rattle.std.proofs.Common.{◌≡◌, ◌⊎◌, inl, inr, ℕ, ◌+◌, ◌<◌, ◌≤◌, List, [], ◌∷◌, ◌++◌, map, refl, sym, ap, subst, ◌∙◌, arith}
use Rattle.std.specs.List.{Contains, AllByRecursion, sum_by}
use Rattle.std.specs.List.Sorted.{IsStrictlySortedBy}
use Rattle.std.specs.Ordering.{nat_cmp, ordering_reverse}
use Rattle.std.specs.declared.cmp.Ordering.{Ordering}
use Rattle.std.specs.declared.cmp.Ordering.TheVariants.{Less, Greater}
use Rattle.std.specs.Cmp.Lexicographic.{slice_cmp, nat_list_cmp_total}
use Rattle.std.proofs.lemmas.List.Sums.{sum_by-append, sum_by-cons}
use Rattle.clear_core.proofs.Moved.{at_head, in_tail, none_in_empty, head_or_tail}
use Rattle.keeper_core.specs.declared.row.Row.{Row}
use Rattle.joined_deals.specs.DealTexts.{JoinedTold}
use Rattle.joined_deals.proofs.Elements.{in_front, in_back, in_either, each_of}
use Rattle.agent_core.specs.AgentRows.{row_of}

-- each item is another than those behind it
abbrev pub AreApart : {X : Type 0} → List X → Type 0
AreApart [] = Unit {0}
AreApart (x ∷ xs) = AllByRecursion (λ y. x ≡ y → ⊥) xs × AreApart xs

-- ---- sums

parted_at : {X : Type 0} (ys : List X) (x : X) → Contains ys x → (front : List X) × (back : List X) × (ys ≡ front ++ x ∷ back)
parted_at [] x here = absurd (none_in_empty x here)
parted_at (y ∷ ys) x here = elim (head_or_tail y ys x here) [
  | inl is ↦ ([], ys, ap (λ (z : _). z ∷ ys) is)
  | inr later ↦ (let p = parted_at ys x later in (y ∷ p.0, p.1, ap (λ (zs : List _). y ∷ zs) p.2))
]

in_rest : {X : Type 0} (front back : List X) (x y : X) → (x ≡ y → ⊥) → Contains (front ++ x ∷ back) y → Contains (front ++ back) y
in_rest front back x y other here = elim (in_either front (x ∷ back) y here) [
  | inl before ↦ in_front front back y before
  | inr behind ↦ elim (head_or_tail x back y behind) [ inl is ↦ absurd (other is) | inr later ↦ in_back front back y later ]
]

-- different items of a list sum up to what all do, at most
pub sum_of_part : {X : Type 0} (f : X → ℕ) (xs ys : List X) → AreApart xs → ((x : X) → Contains xs x → Contains ys x) → sum_by f xs ≤ sum_by f ys
sum_of_part f [] ys apart within = omega arith
sum_of_part f (x ∷ xs) ys apart within =
    let p = parted_at ys x (within x (at_head x xs)) in
    let rest = sum_of_part f xs (p.0 ++ p.1) apart.1 (λ y here. in_rest p.0 p.1 x y (each_of (λ z. x ≡ z → ⊥) xs apart.0 y here) (subst (λ (zs : List _). Contains zs y) p.2 (within y (in_tail x xs y here)))) in
    let all = ap (sum_by f) p.2 in
    omega (arith, rest, all, sum_by-cons f x xs, sum_by-append f p.0 (x ∷ p.1), sum_by-cons f x p.1, sum_by-append f p.0 p.1)

-- ---- rows in ascending order

not_before_itself : (key : List ℕ) → slice_cmp nat_cmp key key ≡ Less → ⊥
not_before_itself key less = (let e : Less ≡ Greater = sym less ∙ (nat_list_cmp_total.antisymm key key ∙ ap ordering_reverse less) in absurd cc)

abbrev keys_of : List Row → List (List ℕ)
keys_of rows = map (λ (row : Row). row.key) rows

none_same : (joined : JoinedTold) (deals : List JoinedTold) (behind : List Row) → AllByRecursion (λ y. slice_cmp nat_cmp joined.deal.id.0 y ≡ Less) (keys_of (map row_of deals ++ behind)) → AllByRecursion (λ (other : JoinedTold). joined ≡ other → ⊥) deals
none_same joined [] behind above = tt
none_same joined (other ∷ deals) behind above = (
  λ same. not_before_itself joined.deal.id.0 (subst (λ (j : JoinedTold). slice_cmp nat_cmp joined.deal.id.0 j.deal.id.0 ≡ Less) (sym same) above.0),
  none_same joined deals behind above.1,
)

-- rows in ascending order are those of different deals
pub deals_apart : (deals : List JoinedTold) (behind : List Row) → IsStrictlySortedBy (slice_cmp nat_cmp) (keys_of (map row_of deals ++ behind)) → AreApart deals
unfolding IsStrictlySortedBy
deals_apart [] behind sorted = tt
deals_apart (joined ∷ deals) behind sorted = (none_same joined deals behind sorted.0, deals_apart deals behind sorted.1)
