-- The pairs that steps move stand once each, in ascending order.
use Rattle.std.proofs.Common.{◌≡◌, zero, suc, ◌⊎◌, inl, inr, List, [], ◌∷◌, map, fold, arith, refl, sym, subst}
use Rattle.std.specs.List.{Contains, AllByRecursion}
use Rattle.std.specs.BTreeSet.{insert_key}
use Rattle.std.specs.Ordering.{match_ordering}
use Rattle.std.specs.declared.cmp.Ordering.{Ordering}
use Rattle.std.specs.declared.cmp.Ordering.TheVariants.{Less, Equal, Greater}
use Rattle.deal_core.specs.declared.step.Step.{Step}
use Rattle.clear_core.specs.Pairs.{pair_of, pair_cmp, pairs_of, Ascend, IsMoved}
use Rattle.clear_core.specs.declared.pair.Pair.{Pair}
use Rattle.clear_core.proofs.PairOrder.{pair_total, pair_exact, turned}

-- ---- elements

pub at_head : {X : Type 0} (x : X) (xs : List X) → Contains (x ∷ xs) x
at_head x xs = (0, omega arith, refl)

pub in_tail : {X : Type 0} (x : X) (xs : List X) (y : X) → Contains xs y → Contains (x ∷ xs) y
in_tail x xs y (k, lt, is) = (suc k, omega (arith, lt), is)

pub head_or_tail : {X : Type 0} (x : X) (xs : List X) (y : X) → Contains (x ∷ xs) y → (x ≡ y) ⊎ Contains xs y
head_or_tail x xs y (zero, lt, is) = inl is
head_or_tail x xs y (suc k, lt, is) = inr (k, omega (arith, lt), is)

pub none_in_empty : {X : Type 0} (y : X) → Contains [] y → ⊥
none_in_empty y (k, lt, is) = omega (arith, lt)

-- ---- one pair more

abbrev with_pair : List Pair → Pair → List Pair
with_pair pairs pair = insert_key pair_cmp pairs pair

-- the list with the pair, where it compares like this to the first
abbrev placed : Ordering → Pair → Pair → List Pair → List Pair
placed o pair p ps = match_ordering o (pair ∷ p ∷ ps) (p ∷ ps) (p ∷ with_pair ps pair)

all_with : (P : Pair → Type 0) (pairs : List Pair) (pair : Pair) → AllByRecursion P pairs → P pair → AllByRecursion P (with_pair pairs pair)
all_with P [] pair h p = (p, tt)
all_with P (q ∷ qs) pair h p = by_order (all_with P qs pair h.1 p) (pair_cmp pair q)
  where
    by_order : AllByRecursion P (with_pair qs pair) → (o : Ordering) → AllByRecursion P (placed o pair q qs)
    by_order later Less = (p, h)
    by_order later Equal = h
    by_order later Greater = (h.0, later)

-- what stands before a pair stands before all behind it
all_before : (first next : Pair) (pairs : List Pair) → pair_cmp first next ≡ Less → AllByRecursion (λ p. pair_cmp next p ≡ Less) pairs → AllByRecursion (λ p. pair_cmp first p ≡ Less) pairs
all_before first next [] e h = tt
all_before first next (p ∷ ps) e h = (pair_total.trans first next p e h.0, all_before first next ps e h.1)

ascend_with : (pairs : List Pair) (pair : Pair) → Ascend pairs → Ascend (with_pair pairs pair)
ascend_with [] pair h = (tt, tt)
ascend_with (q ∷ qs) pair h = by_order (ascend_with qs pair h.1) (pair_cmp pair q) refl
  where
    by_order : Ascend (with_pair qs pair) → (o : Ordering) → pair_cmp pair q ≡ o → Ascend (placed o pair q qs)
    by_order later Less e = ((e, all_before pair q qs e h.0), h)
    by_order later Equal e = h
    by_order later Greater e = (all_with (λ p. pair_cmp q p ≡ Less) qs pair h.0 (turned pair q e), later)

has_pair : (pairs : List Pair) (pair : Pair) → Contains (with_pair pairs pair) pair
has_pair [] pair = at_head pair []
has_pair (q ∷ qs) pair = by_order (has_pair qs pair) (pair_cmp pair q) refl
  where
    by_order : Contains (with_pair qs pair) pair → (o : Ordering) → pair_cmp pair q ≡ o → Contains (placed o pair q qs) pair
    by_order later Less e = at_head pair (q ∷ qs)
    by_order later Equal e = subst (λ (p : Pair). Contains (q ∷ qs) p) (sym (pair_exact pair q e)) (at_head q qs)
    by_order later Greater e = in_tail q (with_pair qs pair) pair later

keeps_pair : (pairs : List Pair) (pair other : Pair) → Contains pairs other → Contains (with_pair pairs pair) other
keeps_pair [] pair other c = absurd (none_in_empty other c)
keeps_pair (q ∷ qs) pair other c = by_order (keeps_pair qs pair other) (pair_cmp pair q)
  where
    by_order : (Contains qs other → Contains (with_pair qs pair) other) → (o : Ordering) → Contains (placed o pair q qs) other
    by_order later Less = in_tail pair (q ∷ qs) other c
    by_order later Equal = c
    by_order later Greater = elim (head_or_tail q qs other c) [
      | inl is ↦ subst (λ (p : Pair). Contains (q ∷ with_pair qs pair) p) is (at_head q (with_pair qs pair))
      | inr there ↦ in_tail q (with_pair qs pair) other (later there)
    ]

only_pair : (pairs : List Pair) (pair other : Pair) → Contains (with_pair pairs pair) other → Contains pairs other ⊎ (pair ≡ other)
only_pair [] pair other c = elim (head_or_tail pair [] other c) [ inl is ↦ inr is | inr there ↦ absurd (none_in_empty other there) ]
only_pair (q ∷ qs) pair other c = by_order (only_pair qs pair other) (pair_cmp pair q) c
  where
    by_order : (Contains (with_pair qs pair) other → Contains qs other ⊎ (pair ≡ other)) → (o : Ordering) → Contains (placed o pair q qs) other → Contains (q ∷ qs) other ⊎ (pair ≡ other)
    by_order later Less c = elim (head_or_tail pair (q ∷ qs) other c) [ inl is ↦ inr is | inr there ↦ inl there ]
    by_order later Equal c = inl c
    by_order later Greater c = elim (head_or_tail q (with_pair qs pair) other c) [
      | inl is ↦ inl (subst (λ (p : Pair). Contains (q ∷ qs) p) is (at_head q qs))
      | inr there ↦ elim (later there) [ inl before ↦ inl (in_tail q qs other before) | inr is ↦ inr is ]
    ]

-- ---- the pairs of steps

abbrev behind : List Pair → List Step → List Pair
behind pairs steps = fold (insert_key pair_cmp) pairs (map pair_of steps)

ascend_behind : (pairs : List Pair) (steps : List Step) → Ascend pairs → Ascend (behind pairs steps)
ascend_behind pairs [] h = h
ascend_behind pairs (step ∷ steps) h = ascend_behind (with_pair pairs (pair_of step)) steps (ascend_with pairs (pair_of step) h)

keeps_behind : (pairs : List Pair) (steps : List Step) (pair : Pair) → Contains pairs pair → Contains (behind pairs steps) pair
keeps_behind pairs [] pair c = c
keeps_behind pairs (step ∷ steps) pair c = keeps_behind (with_pair pairs (pair_of step)) steps pair (keeps_pair pairs (pair_of step) pair c)

has_behind : (pairs : List Pair) (steps : List Step) (step : Step) → Contains steps step → Contains (behind pairs steps) (pair_of step)
has_behind pairs [] step c = absurd (none_in_empty step c)
has_behind pairs (s ∷ steps) step c = elim (head_or_tail s steps step c) [
  | inl is ↦ subst (λ (x : Step). Contains (behind pairs (s ∷ steps)) (pair_of x)) is (keeps_behind (with_pair pairs (pair_of s)) steps (pair_of s) (has_pair pairs (pair_of s)))
  | inr there ↦ has_behind (with_pair pairs (pair_of s)) steps step there
]

only_behind : (pairs : List Pair) (steps : List Step) (pair : Pair) → Contains (behind pairs steps) pair → Contains pairs pair ⊎ IsMoved steps pair
only_behind pairs [] pair c = inl c
only_behind pairs (s ∷ steps) pair c = elim (only_behind (with_pair pairs (pair_of s)) steps pair c) [
  | inl with ↦ elim (only_pair pairs (pair_of s) pair with) [ inl before ↦ inl before | inr is ↦ inr (s, at_head s steps, is) ]
  | inr moved ↦ inr (moved.0, in_tail s steps moved.0 moved.1, moved.2)
]

pub pairs_ascend : (steps : List Step) → Ascend (pairs_of steps)
pairs_ascend steps = ascend_behind [] steps tt

pub pairs_moved : (steps : List Step) (pair : Pair) → Contains (pairs_of steps) pair → IsMoved steps pair
pairs_moved steps pair c = elim (only_behind [] steps pair c) [ inl before ↦ absurd (none_in_empty pair before) | inr moved ↦ moved ]

pub moved_in_pairs : (steps : List Step) (pair : Pair) → IsMoved steps pair → Contains (pairs_of steps) pair
moved_in_pairs steps pair moved = subst (λ (p : Pair). Contains (pairs_of steps) p) moved.2 (has_behind [] steps moved.0 moved.1)
