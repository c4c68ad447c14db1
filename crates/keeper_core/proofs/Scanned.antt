-- What a scan lists.
use Rattle.std.proofs.Common.{◌≡◌, ℕ, zero, suc, ◌==◌, T, true, false, List, [], ◌∷◌, map, Option, Some, None, refl, sym, ap, ◌∙◌, arith, inl, inr, ◌⊎◌}
use Rattle.std.specs.List.{Contains, filter, AllByRecursion}
use Rattle.std.specs.List.Sorted.{IsStrictlySortedBy}
use Rattle.std.specs.declared.cmp.Ordering.{Ordering}
use Rattle.std.specs.declared.cmp.Ordering.TheVariants.{Less, Equal, Greater}
use Rattle.std.specs.Ordering.{is_lt, eq_by_cmp, nat_cmp}
use Rattle.std.specs.Cmp.{nat_cmp_total, tied_itself}
use Rattle.std.specs.Cmp.Lexicographic.{slice_cmp}
use Rattle.std.specs.FinMap.{entries, entries_sorted, get-entries, find, is_sorted}
use Rattle.std.specs.FinMap.Entries.{below_all}
use Rattle.std.proofs.lemmas.Bool.{cases_Bool, eqb-true, eq-eqb}
use Rattle.std.proofs.lemmas.List.Elements.{Contains-append_right}
use Rattle.keeper_core.specs.declared.row.Row.{Row}
use Rattle.keeper_core.specs.Tables.{Cell, cell_cmp}
use Rattle.keeper_core.specs.Scans.{ScansAscend, ScansListTheMap}
use Rattle.keeper_core.proofs.Numbered.{exact_cells, equal_of}
use Rattle.keeper_core.proofs.Filled.{first_of, second_of, find_below}
use Rattle.keeper_core.proofs.Batched.{at_itself, at_others}

abbrev row_of : Cell × List ℕ → Row
row_of e = record { key = e.0.1; val = e.1 }

abbrev rows_at : ℕ → List (Cell × List ℕ) → List Row
rows_at tab es = map row_of (filter (λ e. e.0.0 == tab) es)

lt_less : (r : Ordering) → T (is_lt r) → r ≡ Less
lt_less Less h = refl
lt_less Equal h = absurd h
lt_less Greater h = absurd h

-- two cells of one table are in the order of their keys
key_less : (tab : ℕ) (a b : Cell) → a.0 ≡ tab → b.0 ≡ tab → T (is_lt (cell_cmp a b)) → slice_cmp nat_cmp a.1 b.1 ≡ Less
key_less tab a b ea eb h =
    let same : nat_cmp a.0 b.0 ≡ Equal = rw (ea, eb) (tied_itself nat_cmp_total tab) in
    lt_less (slice_cmp nat_cmp a.1 b.1) (rw same at h)

keys_above : (tab : ℕ) (cell : Cell) (es : List (Cell × List ℕ)) → cell.0 ≡ tab → T (below_all cell_cmp cell es) → AllByRecursion (λ key. slice_cmp nat_cmp cell.1 key ≡ Less) (map (λ row. row.key) (rows_at tab es))
keys_above tab cell [] e h = tt
keys_above tab cell (x ∷ es) e h = elim (cases_Bool (x.0.0 == tab)) [
  | inl here ↦ rw here (key_less tab cell x.0 e (eqb-true x.0.0 tab here) (first_of _ _ h), keys_above tab cell es e (second_of _ _ h))
  | inr there ↦ rw there (keys_above tab cell es e (second_of _ _ h))
]

keys_ascend : (tab : ℕ) (es : List (Cell × List ℕ)) → T (is_sorted cell_cmp es) → IsStrictlySortedBy (slice_cmp nat_cmp) (map (λ row. row.key) (rows_at tab es))
unfolding IsStrictlySortedBy
keys_ascend tab [] h = tt
keys_ascend tab (x ∷ es) h = elim (cases_Bool (x.0.0 == tab)) [
  | inl here ↦ rw here (keys_above tab x.0 es (eqb-true x.0.0 tab here) (first_of _ _ h), keys_ascend tab es (second_of _ _ h))
  | inr there ↦ rw there (keys_ascend tab es (second_of _ _ h))
]

pub scans_ascend : ScansAscend
scans_ascend tab tables = keys_ascend tab (entries tables) (entries_sorted tables)

-- a row is first or stands in the rest
pub contains_cases : (first row : Row) (rest : List Row) → Contains (first ∷ rest) row → (first ≡ row) ⊎ Contains rest row
contains_cases first row rest (zero, lt, is) = inl is
contains_cases first row rest (suc k, lt, is) = inr (k, omega arith, is)

-- what a search for a cell other than the first finds
find_later : (cell : Cell) (x : Cell × List ℕ) (es : List (Cell × List ℕ)) → (x.0 ≡ cell → ⊥) → find cell_cmp cell (x ∷ es) ≡ find cell_cmp cell es
find_later cell x es ne = rw (at_others cell x.0 ne) refl

not_both : {X : Type 0} (found : Option X) (x : X) → found ≡ None → found ≡ Some x → ⊥
not_both None x none some = cc
not_both (Some y) x none some = cc

listed_found : (tab : ℕ) (row : Row) (es : List (Cell × List ℕ)) → T (is_sorted cell_cmp es) → Contains (rows_at tab es) row → find cell_cmp (tab, row.key) es ≡ Some row.val
listed_found tab row [] h (k, lt, is) = absurd (omega arith)
listed_found tab row (x ∷ es) h there = elim (cases_Bool (x.0.0 == tab)) [
  | inl here ↦
      let number : x.0.0 ≡ tab = eqb-true x.0.0 tab here in
      let stands : Contains (row_of x ∷ rows_at tab es) row = rw here at there in
      elim (contains_cases (row_of x) row (rows_at tab es) stands) [
        | inl is ↦
            let cell : x.0 ≡ (tab, row.key) = (λ i. (number i, (is i).key)) in
            let found : find cell_cmp x.0 (x ∷ es) ≡ Some x.1 = rw (at_itself x.0) refl in
            ap (λ (c : Cell). find cell_cmp c (x ∷ es)) (sym cell) ∙ found ∙ ap (λ (r : Row). Some r.val) is
        | inr later ↦
            let found : find cell_cmp (tab, row.key) es ≡ Some row.val = listed_found tab row es (second_of _ _ h) later in
            find_later (tab, row.key) x es (λ same. not_both (find cell_cmp (tab, row.key) es) row.val (ap (λ (c : Cell). find cell_cmp c es) (sym same) ∙ find_below x.0 es (first_of _ _ h)) found) ∙ found
      ]
  | inr apart ↦
      let stands : Contains (rows_at tab es) row = rw apart at there in
      find_later (tab, row.key) x es (λ same. (let e = eq-eqb x.0.0 tab (ap (λ (c : Cell). c.0) same) in let clash : true ≡ false = sym e ∙ apart in cc)) ∙ listed_found tab row es (second_of _ _ h) stands
]

found_listed : (tab : ℕ) (row : Row) (es : List (Cell × List ℕ)) → find cell_cmp (tab, row.key) es ≡ Some row.val → Contains (rows_at tab es) row
found_listed tab row [] is = absurd cc
found_listed tab row (x ∷ es) is = elim (cases_Bool (eq_by_cmp cell_cmp (tab, row.key) x.0)) [
  | inl same ↦
      let cell : (tab, row.key) ≡ x.0 = exact_cells (tab, row.key) x.0 (equal_of _ same) in
      let val : x.1 ≡ row.val = (let e = rw same at is in cc) in
      let here = eq-eqb x.0.0 tab (sym (ap (λ (c : Cell). c.0) cell)) in
      let first : row_of x ≡ row = (λ i. record { key = sym (ap (λ (c : Cell). c.1) cell) i; val = val i }) in
      rw here (0, omega arith, first)
  | inr apart ↦
      let rest = found_listed tab row es (rw apart at is) in
      elim (cases_Bool (x.0.0 == tab)) [
        | inl here ↦ rw here (Contains-append_right (row_of x ∷ []) (rows_at tab es) row rest)
        | inr there ↦ rw there rest
      ]
]

pub scans_list_the_map : ScansListTheMap
scans_list_the_map tab row tables = (
  λ there. get-entries tables (tab, row.key) ∙ listed_found tab row (entries tables) (entries_sorted tables) there,
  λ is. found_listed tab row (entries tables) (sym (get-entries tables (tab, row.key)) ∙ is),
)
