-- Tables whose keys are numbers.
use Rattle.std.proofs.Common.{◌≡◌, ℕ, zero, suc, ◌+◌, ◌^◌, ◌<◌, ◌≤◌, List, [], ◌∷◌, ◌++◌, map, length, slice_get, Option, Some, None, refl, sym, ap, subst, ◌∙◌, arith, ◌⊎◌, inl, inr}
use Rattle.std.specs.Int.{Width, byte_len, to_be_bytes}
use Rattle.std.specs.List.{Contains, AllByRecursion}
use Rattle.std.specs.List.Sorted.{IsStrictlySortedBy}
use Rattle.std.specs.FinMap.{get, insert, get-insert}
use Rattle.std.specs.Ordering.{eq_by_cmp}
use Rattle.std.proofs.lemmas.Bool.{cases_Bool, cases_order}
use Rattle.std.proofs.lemmas.List.{length-append}
use Rattle.std.proofs.lemmas.List.Elements.{Contains-append_left, Contains-append_right, Contains-append_cases}
use Rattle.keeper_core.specs.declared.row.Row.{Row}
use Rattle.keeper_core.specs.Tables.{Cell, cell_cmp, Tables}
use Rattle.keeper_core.specs.NumberedRows.{numbered_rows, IsNumbered, NumbersOn, StandsUnderNumber, OneNumbering}
use Rattle.keeper_core.proofs.Numbered.{cells_total, exact_cells, equal_of}
use Rattle.keeper_core.proofs.Batched.{at_itself, at_others}
use Rattle.keeper_core.proofs.Scanned.{contains_cases, scans_list_the_map}
use Rattle.keeper_core.proofs.Ordered.{numbers_ascend}
use Rattle.keeper_core.proofs.OneListing.{IsBefore, Ascends, keys_of_rows, not_before_itself, here, later_on, is_the_scan}

abbrev row_under : Width → ℕ → List ℕ → Row
row_under width n val = record { key = to_be_bytes width n; val = val }

-- ---- order

numbers_behind : (width : Width) (n first : ℕ) (vals : List (List ℕ)) → n < first → first + length vals ≤ 256 ^ byte_len width → AllByRecursion (λ key. IsBefore (to_be_bytes width n) key) (keys_of_rows (numbered_rows width first vals))
numbers_behind width n first [] lt fits = tt
numbers_behind width n first (val ∷ vals) lt fits =
    (numbers_ascend width n first lt (omega (arith, fits)), numbers_behind width n (suc first) vals (omega (arith, lt)) (omega (arith, fits)))

pub numbers_in_order : (width : Width) (first : ℕ) (vals : List (List ℕ)) → first + length vals ≤ 256 ^ byte_len width → Ascends (numbered_rows width first vals)
unfolding IsStrictlySortedBy
numbers_in_order width first [] fits = tt
numbers_in_order width first (val ∷ vals) fits =
    (numbers_behind width first (suc first) vals (omega arith) (omega (arith, fits)), numbers_in_order width (suc first) vals (omega (arith, fits)))

numbers_differ : (width : Width) (a b : ℕ) → a < b → b < 256 ^ byte_len width → to_be_bytes width a ≡ to_be_bytes width b → ⊥
numbers_differ width a b lt small same = not_before_itself (to_be_bytes width a) (subst (λ key. IsBefore (to_be_bytes width a) key) (sym same) (numbers_ascend width a b lt small))

pub one_number : (width : Width) (a b : ℕ) → a < 256 ^ byte_len width → b < 256 ^ byte_len width → to_be_bytes width a ≡ to_be_bytes width b → a ≡ b
one_number width a b small small' same = elim (cases_order a b) [
  | inl e ↦ e
  | inr (inl less) ↦ absurd (numbers_differ width a b less small' same)
  | inr (inr more) ↦ absurd (numbers_differ width b a more small (sym same))
]

-- ---- which rows there are

pub numbered_more : (width : Width) (first : ℕ) (vals : List (List ℕ)) (val : List ℕ) → numbered_rows width first (vals ++ val ∷ []) ≡ numbered_rows width first vals ++ row_under width (first + length vals) val ∷ []
numbered_more width first [] val = ap (λ (n : ℕ). row_under width n val ∷ []) (omega arith)
numbered_more width first (x ∷ vals) val =
    ap (λ (rows : List Row). row_under width first x ∷ rows) (numbered_more width (suc first) vals val
    ∙ ap (λ (n : ℕ). numbered_rows width (suc first) vals ++ row_under width n val ∷ []) (omega arith))

-- a row stands under a number of the values
pub under_a_number : (width : Width) (first : ℕ) (vals : List (List ℕ)) (row : Row) → Contains (numbered_rows width first vals) row → (k : ℕ) × (k < length vals) × (row.key ≡ to_be_bytes width (first + k)) × (slice_get vals k ≡ Some row.val)
under_a_number width first [] row (k, lt, is) = absurd (omega arith)
under_a_number width first (val ∷ vals) row there = elim (contains_cases (row_under width first val) row (numbered_rows width (suc first) vals) there) [
  | inl is ↦ (0, omega arith, sym (ap (λ (r : Row). r.key) is) ∙ ap (λ (n : ℕ). to_be_bytes width n) (omega arith), ap (λ (r : Row). Some r.val) is)
  | inr later ↦
      let found = under_a_number width (suc first) vals row later in
      (suc found.0, omega (arith, found.1), found.2 ∙ ap (λ (n : ℕ). to_be_bytes width n) (omega arith), found.3)
]

pub stands_there : (width : Width) (first k : ℕ) (vals : List (List ℕ)) (val : List ℕ) → slice_get vals k ≡ Some val → Contains (numbered_rows width first vals) (row_under width (first + k) val)
stands_there width first k [] val is = absurd cc
stands_there width first zero (x ∷ vals) val is =
    let e : x ≡ val = cc in
    let n : first ≡ first + 0 = omega arith in
    subst (λ (row : Row). Contains (numbered_rows width first (x ∷ vals)) row) (λ i. row_under width (n i) (e i)) (here (row_under width first x) (numbered_rows width (suc first) vals))
stands_there width first (suc k) (x ∷ vals) val is =
    subst (λ (n : ℕ). Contains (numbered_rows width first (x ∷ vals)) (row_under width n val)) (omega arith)
    (later_on (row_under width first x) (numbered_rows width (suc first) vals) (row_under width (suc first + k) val) (stands_there width (suc first) k vals val is))

-- ---- the laws

vals_of : (width : Width) (first : ℕ) (vals : List (List ℕ)) → map (λ row. row.val) (numbered_rows width first vals) ≡ vals
vals_of width first [] = refl
vals_of width first (val ∷ vals) = ap (λ (more : List (List ℕ)). val ∷ more) (vals_of width (suc first) vals)

pub one_numbering : OneNumbering
one_numbering width tab first vals others tables is also =
    sym (vals_of width first vals) ∙ ap (λ (rows : List Row). map (λ row. row.val) rows) (sym is ∙ also) ∙ vals_of width first others

none_or_some : {X : Type 0} (found : Option X) → (found ≡ None) ⊎ ((x : X) × (found ≡ Some x))
none_or_some None = inl refl
none_or_some (Some x) = inr (x, refl)

pub stands_under_number : StandsUnderNumber
stands_under_number width tab first k vals tables is fits small = elim (none_or_some (slice_get vals k)) [
  | inr (val, there) ↦
      (scans_list_the_map tab (row_under width (first + k) val) tables).0 (subst (λ (rows : List Row). Contains rows (row_under width (first + k) val)) (sym is) (stands_there width first k vals val there)) ∙ sym there
  | inl absent ↦ elim (none_or_some (get tables (tab, to_be_bytes width (first + k)))) [
    | inl none ↦ none ∙ sym absent
    | inr (val, found) ↦
        let row = under_a_number width first vals (row_under width (first + k) val) (subst (λ (rows : List Row). Contains rows (row_under width (first + k) val)) is ((scans_list_the_map tab (row_under width (first + k) val) tables).1 found)) in
        let same : k ≡ row.0 = omega (arith, one_number width (first + k) (first + row.0) small (omega (arith, row.1, fits)) row.2) in
        let clash : None ≡ Some val = sym absent ∙ (ap (λ (j : ℕ). slice_get vals j) same ∙ row.3) in
        absurd cc
  ]
]

module _ (width : Width) (tab first : ℕ) (vals : List (List ℕ)) (val : List ℕ) (tables : Tables) (is : IsNumbered width tab first vals tables) (small : first + length vals < 256 ^ byte_len width) where
  abbrev next : Row
  next = row_under width (first + length vals) val

  abbrev after : Tables
  after = insert tables (tab, next.key) val

  at_next : get after (tab, next.key) ≡ Some val
  at_next = get-insert cells_total tables (tab, next.key) val (tab, next.key) ∙ (rw (at_itself (tab, next.key)) refl)

  elsewhere : (key : List ℕ) → (next.key ≡ key → ⊥) → get after (tab, key) ≡ get tables (tab, key)
  elsewhere key ne = get-insert cells_total tables (tab, next.key) val (tab, key) ∙ (rw (at_others (tab, key) (tab, next.key) (λ same. ne (ap (λ (c : Cell). c.1) same))) refl)

  abbrev rows : List Row
  rows = numbered_rows width first vals

  kept_rows : (row : Row) → Contains rows row → get after (tab, row.key) ≡ Some row.val
  kept_rows row there =
      let number = under_a_number width first vals row there in
      elsewhere row.key (λ same. numbers_differ width (first + number.0) (first + length vals) (omega (arith, number.1)) small (sym number.2 ∙ sym same))
      ∙ (scans_list_the_map tab row tables).0 (subst (λ (rs : List Row). Contains rs row) (sym is) there)

  next_row : (row : Row) → Contains (next ∷ []) row → get after (tab, row.key) ≡ Some row.val
  next_row row there = elim (contains_cases next row [] there) [
    | inl e ↦ subst (λ (r : Row). get after (tab, r.key) ≡ Some r.val) e at_next
    | inr (k, lt, at) ↦ absurd (omega arith)
  ]

  all_kept : (row : Row) → Contains (rows ++ next ∷ []) row → get after (tab, row.key) ≡ Some row.val
  all_kept row there = elim (Contains-append_cases rows (next ∷ []) row there) [
    | inl before ↦ kept_rows row before
    | inr last ↦ next_row row last
  ]

  all_listed : (row : Row) → get after (tab, row.key) ≡ Some row.val → Contains (rows ++ next ∷ []) row
  all_listed row found = elim (cases_Bool (eq_by_cmp cell_cmp (tab, row.key) (tab, next.key))) [
    | inl same ↦
        let cell = exact_cells (tab, row.key) (tab, next.key) (equal_of _ same) in
        let key : row.key ≡ next.key = ap (λ (c : Cell). c.1) cell in
        let value : Some val ≡ Some row.val = sym at_next ∙ (ap (λ (k : List ℕ). get after (tab, k)) (sym key) ∙ found) in
        let e : val ≡ row.val = cc in
        Contains-append_right rows (next ∷ []) row (subst (λ (r : Row). Contains (next ∷ []) r) (λ i. record { key = sym key i; val = e i }) (here next []))
    | inr apart ↦
        let before : get tables (tab, row.key) ≡ Some row.val = sym (get-insert cells_total tables (tab, next.key) val (tab, row.key) ∙ (rw apart refl)) ∙ found in
        Contains-append_left rows (next ∷ []) row (subst (λ (rs : List Row). Contains rs row) is ((scans_list_the_map tab row tables).1 before))
  ]

  pub numbered_on : IsNumbered width tab first (vals ++ val ∷ []) after
  numbered_on =
      let more = numbered_more width first vals val in
      is_the_scan tab after (rows ++ next ∷ []) (subst Ascends more (numbers_in_order width first (vals ++ val ∷ []) (omega (arith, small, length-snoc)))) all_listed all_kept ∙ sym more
    where
      length-snoc : length (vals ++ val ∷ []) ≡ length vals + 1
      length-snoc = length-append vals (val ∷ [])

pub numbers_on : NumbersOn
numbers_on width tab first vals val tables is small = numbered_on width tab first vals val tables is small
