-- The rows of a table, from its slots in their order.
use Rattle.std.proofs.Common.{◌≡◌, ℕ, T, ◌&&◌, Bool, true, false, List, [], ◌∷◌, ◌++◌, map, Option, Some, None, refl, sym, ap, ◌∙◌, append-nil}
use Rattle.std.specs.Option.{option_map}
use Rattle.std.proofs.lemmas.List.{map-append}
use Rattle.std.specs.declared.vec.Vec.{Vec}
use Rattle.std.specs.declared.cmp.Ordering.{Ordering}
use Rattle.std.specs.declared.cmp.Ordering.TheVariants.{Less}
use Rattle.std.specs.Ordering.{is_lt, nat_cmp}
use Rattle.std.specs.Cmp.{IsTotalOrder}
use Rattle.std.specs.Cmp.Lexicographic.{slice_cmp, nat_list_cmp_total}
use Rattle.std.specs.List.{AllByRecursion}
use Rattle.std.specs.List.Sorted.{IsStrictlySortedBy}
use Rattle.std.specs.Map.{keys_of}
use denote.Ref.{Bor}
use Rattle.std.specs.Map.Iter.{deref_pair}
use Rattle.std.specs.FinMap.{entries, entries_sorted, get-entries, from_entries, get-from_entries, is_sorted, IsAntisymmetric}
use Rattle.std.specs.FinMap.Entries.{below_all, same_entries}
use Rattle.std.proofs.lemmas.Map.Lookups.{exact_bytes}
use Rattle.keeper_core.specs.declared.row.Row.{Row}
use Rattle.keeper_core.specs.Slots.{Slot, rows_in}
use Rattle.keeper_core.specs.Laying.{bare}

-- entries in order are those of the map that they make
pub entries_of_sorted : {K X : Type 0} {R : K → K → Ordering} → IsTotalOrder R → IsAntisymmetric R → (es : List (K × X)) → T (is_sorted R es) → entries (from_entries {R = R} es) ≡ es
entries_of_sorted {R = R} o same es h =
    same_entries R o same (entries (from_entries es)) es (entries_sorted (from_entries es)) h (λ q. sym (get-entries (from_entries es) q) ∙ get-from_entries o es q)

pub both : (a b : Bool) → T a → T b → T (a && b)
both true b p q = q
both false b p q = absurd p

less_lt : (r : Ordering) → r ≡ Less → T (is_lt r)
less_lt r e = rw e tt

below_bare : {A : Type 0} (key : List ℕ) (es : List (Vec ℕ A × Option (Vec ℕ A))) → AllByRecursion (λ k. slice_cmp nat_cmp key k.items ≡ Less) (keys_of es) → T (below_all (slice_cmp nat_cmp) key (bare es))
below_bare key [] h = tt
below_bare key (e ∷ es) h = both _ _ (less_lt _ h.0) (below_bare key es h.1)

sorted_bare : {A : Type 0} (es : List (Vec ℕ A × Option (Vec ℕ A))) → IsStrictlySortedBy (λ x y. slice_cmp nat_cmp x.items y.items) (keys_of es) → T (is_sorted (slice_cmp nat_cmp) (bare es))
unfolding IsStrictlySortedBy
sorted_bare [] h = tt
sorted_bare (e ∷ es) h = both _ _ (below_bare e.0.items es h.0) (sorted_bare es h.1)

pub entries_bare : {A : Type 0} (es : List (Vec ℕ A × Option (Vec ℕ A))) → IsStrictlySortedBy (λ x y. slice_cmp nat_cmp x.items y.items) (keys_of es) → entries (from_entries {R = slice_cmp nat_cmp} (bare es)) ≡ bare es
entries_bare es h = entries_of_sorted nat_list_cmp_total exact_bytes (bare es) (sorted_bare es h)

pub rows_in-append : (xs ys : List (List ℕ × Slot)) → rows_in (xs ++ ys) ≡ rows_in xs ++ rows_in ys
rows_in-append [] ys = refl
rows_in-append ((key, None) ∷ xs) ys = rows_in-append xs ys
rows_in-append ((key, Some val) ∷ xs) ys = ap (λ (rows : List Row). record { key = key; val = val } ∷ rows) (rows_in-append xs ys)

bare-append : {A : Type 0} (xs ys : List (Vec ℕ A × Option (Vec ℕ A))) → bare (xs ++ ys) ≡ bare xs ++ bare ys
bare-append [] ys = refl
bare-append (x ∷ xs) ys = ap (λ (zs : List (List ℕ × Slot)). (x.0.items, option_map (λ v. v.items) x.1) ∷ zs) (bare-append xs ys)

pub rows_more : {A : Type 0} (es : List (Vec ℕ A × Option (Vec ℕ A))) (e : Vec ℕ A × Option (Vec ℕ A)) → rows_in (bare (es ++ e ∷ [])) ≡ rows_in (bare es) ++ rows_in (bare (e ∷ []))
rows_more es e = ap rows_in (bare-append es (e ∷ [])) ∙ rows_in-append (bare es) (bare (e ∷ []))

-- one slot more, which is full
pub rows_more_full : {A : Type 0} (es : List (Vec ℕ A × Option (Vec ℕ A))) (key val : Vec ℕ A) (slot : Option (Vec ℕ A)) → slot ≡ Some val → rows_in (bare (es ++ (key, slot) ∷ [])) ≡ rows_in (bare es) ++ record { key = key.items; val = val.items } ∷ []
rows_more_full es key val slot is = rw is (rows_more es (key, Some val))

-- one slot more, which is empty
pub rows_more_empty : {A : Type 0} (es : List (Vec ℕ A × Option (Vec ℕ A))) (key : Vec ℕ A) (slot : Option (Vec ℕ A)) → slot ≡ None → rows_in (bare (es ++ (key, slot) ∷ [])) ≡ rows_in (bare es)
rows_more_empty es key slot is = rw is (rows_more es (key, None) ∙ append-nil (rows_in (bare es)))

-- the same, as an iterator over the slots shows them
pub rows_shown_full : {A : Type 0} (shown : List (Bor (Vec ℕ A) × Bor (Option (Vec ℕ A)))) (key : Bor (Vec ℕ A)) (slot : Bor (Option (Vec ℕ A))) (val : Vec ℕ A) → slot.now ≡ Some val → rows_in (bare (map deref_pair (shown ++ (key, slot) ∷ []))) ≡ rows_in (bare (map deref_pair shown)) ++ record { key = key.now.items; val = val.items } ∷ []
rows_shown_full {A} shown key slot val is =
    ap (λ (es : List (Vec ℕ A × Option (Vec ℕ A))). rows_in (bare es)) (map-append deref_pair shown ((key, slot) ∷ [])) ∙ rows_more_full (map deref_pair shown) key.now val slot.now is

pub rows_shown_empty : {A : Type 0} (shown : List (Bor (Vec ℕ A) × Bor (Option (Vec ℕ A)))) (key : Bor (Vec ℕ A)) (slot : Bor (Option (Vec ℕ A))) → slot.now ≡ None → rows_in (bare (map deref_pair (shown ++ (key, slot) ∷ []))) ≡ rows_in (bare (map deref_pair shown))
rows_shown_empty {A} shown key slot is =
    ap (λ (es : List (Vec ℕ A × Option (Vec ℕ A))). rows_in (bare es)) (map-append deref_pair shown ((key, slot) ∷ [])) ∙ rows_more_empty (map deref_pair shown) key.now slot.now is

-- a row is pushed for each full slot that is shown
pub rows_pushed : {A : Type 0} (before after : List Row) (row : Row) (shown : List (Bor (Vec ℕ A) × Bor (Option (Vec ℕ A)))) (key : Bor (Vec ℕ A)) (slot : Bor (Option (Vec ℕ A))) (val : Vec ℕ A) → after ≡ before ++ row ∷ [] → before ≡ rows_in (bare (map deref_pair shown)) → row ≡ record { key = key.now.items; val = val.items } → slot.now ≡ Some val → after ≡ rows_in (bare (map deref_pair (shown ++ (key, slot) ∷ [])))
rows_pushed before after row shown key slot val pushed so_far is full =
    pushed ∙ ap (λ (rows : List Row). rows ++ row ∷ []) so_far ∙ ap (λ (r : Row). rows_in (bare (map deref_pair shown)) ++ r ∷ []) is ∙ sym (rows_shown_full shown key slot val full)
