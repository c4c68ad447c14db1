-- Rows in ascending order are determined by which rows they are.
use Rattle.std.proofs.Common.{◌≡◌, ℕ, List, [], ◌∷◌, map, Some, refl, sym, subst, ◌∙◌, arith, inl, inr}
use Rattle.std.specs.List.{Contains, AllByRecursion}
use Rattle.std.specs.List.Sorted.{IsStrictlySortedBy}
use Rattle.std.specs.declared.cmp.Ordering.TheVariants.{Less, Equal}
use Rattle.std.specs.Ordering.{nat_cmp}
use Rattle.std.specs.Cmp.{tied_itself}
use Rattle.std.specs.Cmp.Lexicographic.{slice_cmp, nat_list_cmp_total}
use Rattle.std.specs.FinMap.{get}
use Rattle.std.proofs.lemmas.List.Elements.{Contains-append_right}
use Rattle.keeper_core.specs.declared.row.Row.{Row}
use Rattle.keeper_core.specs.Tables.{Tables, rows_of}
use Rattle.keeper_core.proofs.Scanned.{contains_cases, scans_ascend, scans_list_the_map}

abbrev pub IsBefore : List ℕ → List ℕ → Type 0
IsBefore key other = slice_cmp nat_cmp key other ≡ Less

abbrev pub keys_of_rows : List Row → List (List ℕ)
keys_of_rows rows = map (λ row. row.key) rows

abbrev pub Ascends : List Row → Type 0
Ascends rows = IsStrictlySortedBy (slice_cmp nat_cmp) (keys_of_rows rows)

pub not_before_itself : (key : List ℕ) → IsBefore key key → ⊥
not_before_itself key h = (let e : Equal ≡ Less = sym (tied_itself nat_list_cmp_total key) ∙ h in cc)

not_both_ways : (key other : List ℕ) → IsBefore key other → IsBefore other key → ⊥
not_both_ways key other h g = not_before_itself key (nat_list_cmp_total.trans key other key h g)

-- each row behind the first has a greater key
pub behind : (key : List ℕ) (rows : List Row) (row : Row) → AllByRecursion (λ other. IsBefore key other) (keys_of_rows rows) → Contains rows row → IsBefore key row.key
behind key [] row all (k, lt, is) = absurd (omega arith)
behind key (first ∷ rows) row all there = elim (contains_cases first row rows there) [
  | inl is ↦ subst (λ (r : Row). IsBefore key r.key) is all.0
  | inr later ↦ behind key rows row all.1 later
]

pub here : (first : Row) (rows : List Row) → Contains (first ∷ rows) first
here first rows = (0, omega arith, refl)

pub later_on : (first : Row) (rows : List Row) (row : Row) → Contains rows row → Contains (first ∷ rows) row
later_on first rows row there = Contains-append_right (first ∷ []) rows row there

none_there : (row : Row) → Contains [] row → ⊥
none_there row (k, lt, is) = omega arith

-- a row of the one list that isn't its first, where the two begin alike
rest_there : (x y : Row) (xs ys : List Row) → x ≡ y → AllByRecursion (λ other. IsBefore x.key other) (keys_of_rows xs) → ((row : Row) → Contains (x ∷ xs) row → Contains (y ∷ ys) row) → (row : Row) → Contains xs row → Contains ys row
rest_there x y xs ys alike above there row in_xs = elim (contains_cases y row ys (there row (later_on x xs row in_xs))) [
  | inl is ↦ absurd (not_before_itself x.key (subst (λ (r : Row). IsBefore x.key r.key) (sym (alike ∙ is)) (behind x.key xs row above in_xs)))
  | inr later ↦ later
]

pub same_listing : (xs ys : List Row) → Ascends xs → Ascends ys → ((row : Row) → Contains xs row → Contains ys row) → ((row : Row) → Contains ys row → Contains xs row) → xs ≡ ys
unfolding IsStrictlySortedBy
same_listing [] [] up up' there back = refl
same_listing [] (y ∷ ys) up up' there back = absurd (none_there y (back y (here y ys)))
same_listing (x ∷ xs) [] up up' there back = absurd (none_there x (there x (here x xs)))
same_listing (x ∷ xs) (y ∷ ys) up up' there back =
    let first : x ≡ y = elim (contains_cases y x ys (there x (here x xs))) [
      | inl is ↦ sym is
      | inr x_later ↦ elim (contains_cases x y xs (back y (here y ys))) [
        | inl is ↦ is
        | inr y_later ↦ absurd (not_both_ways x.key y.key (behind x.key xs y up.0 y_later) (behind y.key ys x up'.0 x_later))
      ]
    ] in
    let rest = same_listing xs ys up.1 up'.1 (rest_there x y xs ys first up.0 there) (rest_there y x ys xs (sym first) up'.0 back) in
    λ i. first i ∷ rest i

-- rows in ascending order that are those of the map are its scan
pub is_the_scan : (tab : ℕ) (tables : Tables) (rows : List Row) → Ascends rows → ((row : Row) → get tables (tab, row.key) ≡ Some row.val → Contains rows row) → ((row : Row) → Contains rows row → get tables (tab, row.key) ≡ Some row.val) → rows_of tab tables ≡ rows
is_the_scan tab tables rows up listed kept = same_listing (rows_of tab tables) rows (scans_ascend tab tables) up
    (λ row there. listed row ((scans_list_the_map tab row tables).0 there))
    (λ row there. (scans_list_the_map tab row tables).1 (kept row there))
