-- The rows of cells, and the map that they stand for.
use Rattle.std.proofs.Common.{◌<ℤ◌, int_eq, ◌≡◌, ◌≤◌, ℕ, ℤ, pos, ◌+ℤ◌, ◌&&◌, not, Bool, true, false, cond, List, [], ◌∷◌, ◌++◌, map, filter, fold, length, Option, Some, None, refl, sym, ap, ap₂, subst, ◌∙◌, arith, inl, inr, IsPermutation, append-nil, length-append, true≢false}
use Rattle.std.proofs.lemmas.Int.{ints}
use Rattle.std.specs.List.{AllByRecursion, list_any}
use Rattle.std.specs.declared.cmp.Ordering.{Ordering}
use Rattle.std.specs.declared.cmp.Ordering.TheVariants.{Less, Equal, Greater}
use Rattle.std.specs.Ordering.{match_ordering, is_eq, eq_by_cmp, nat_cmp, int_cmp, ordering_then}
use Rattle.std.specs.Cmp.{eq_by_cmp_equiv}
use Rattle.std.specs.Cmp.Lexicographic.{slice_cmp}
use Rattle.std.specs.FinMap.{from_entries, from_entries_push, get, insert, get-insert, remove, get-remove, get-from_entries, find, same_map}
use Rattle.std.proofs.lemmas.Bool.{cases_Bool, or_parts, and_right}
use Rattle.std.proofs.lemmas.List.{map-append, length-map}
use Rattle.std.proofs.lemmas.List.Sorted.{length_permutation, IsPermutation-map}
use Rattle.sqlite.specs.declared.types.Value.TheVariants.{Int, Blob}
use Rattle.sqlite.specs.Order.{Row, column, value_cmp}
use Rattle.sqlite.specs.Tree.{rowid, put_row}
use Rattle.sqlite.specs.Edit.{is_taken, without_all, put_all, next_rowid, id_in}
use Rattle.sqlite_value.proofs.OrderLemmas.{value_cmp-Int, value_cmp-Blob}
use Rattle.sqlite_trees.specs.Tree.{IsAscending}
use Rattle.sqlite_rules.specs.Lists.{Has}
use Rattle.sqlite_keyed.specs.Keyed.{IsKeyedBy, insert_by, next_key}
use Rattle.sqlite_keyed.specs.Lists.{delete_where}
use Rattle.sqlite_keyed.specs.Rules.{AreApart}
use Rattle.sqlite_keyed.proofs.KeyedLemmas.{IsKeyedBy-insert_by, IsKeyedBy-delete_where}
use Rattle.sqlite_keyed.proofs.ListLemmas.{any_from_none, map_back, ascending-filter, ascending-append, all_weaker, filter-map, filter_same}
use Rattle.sqlite_keyed.proofs.RuleLemmas.{apart_delete, apart_insert}
use Rattle.sqlite_keyed.proofs.SliceLemmas.{insert_next}
use Rattle.sqlite_keyed.proofs.WriteLemmas.{removes_delete}
use Rattle.sqlite_typed.proofs.RowLemmas.{puts-map, deletes-map}
use Rattle.sqlite.proofs.Callers.{one_permutation}
use Rattle.keeper_core.specs.Tables.{Cell, cell_cmp, Tables}
use Rattle.keeper_core.proofs.Numbered.{cells_total, exact_cells, equal_of}
use Rattle.keeper_core.proofs.Batched.{at_itself, at_others}
use Rattle.keeper_sql.specs.CellRows.{CellRow, cell_in, to_row, from_row, entry_in, map_of, is_on, AreRowsOf}

abbrev id_of : CellRow → ℤ
id_of x = x.id

pub back : (xs : List CellRow) → map from_row (map to_row xs) ≡ xs
back xs = map_back to_row from_row (λ x. refl) xs

-- rows that are these are those that are read back
pub read_back : (xs : List CellRow) (rows : List Row) → rows ≡ map to_row xs → map from_row rows ≡ xs
read_back xs rows is = ap (map from_row) is ∙ back xs

-- ---- the test of a cell

pub on_is : (cell : Cell) (x : CellRow) → is_on cell x ≡ true → cell_in x ≡ cell
on_is cell x h = sym (exact_cells cell (cell_in x) (equal_of _ h))

both_ways : (a b : Ordering) → is_eq (ordering_then a b) ≡ (is_eq a && (is_eq b && true))
both_ways Less b = refl
both_ways Equal Less = refl
both_ways Equal Equal = refl
both_ways Equal Greater = refl
both_ways Greater b = refl

pub same_order : (a b : ℕ) → int_cmp (pos a) (pos b) ≡ nat_cmp a b
same_order a b = grind (arith, ints)

-- as the selection tests it
pub tests_as : (tab : ℕ) (key : List ℕ) (x : CellRow) → (is_eq (value_cmp (Int (pos x.tab)) (Int (pos tab))) && (is_eq (value_cmp (Blob x.key) (Blob key)) && true)) ≡ is_on (tab, key) x
tests_as tab key x =
    ap₂ (λ a b. is_eq a && (is_eq b && true)) (value_cmp-Int (pos x.tab) (pos tab) ∙ same_order x.tab tab) (value_cmp-Blob x.key key)
    ∙ sym (both_ways (nat_cmp x.tab tab) (slice_cmp nat_cmp x.key key))
    ∙ (eq_by_cmp_equiv cells_total).symm (cell_in x) (tab, key)

-- ---- at most one row of a cell

none_on : (cell : Cell) (x : CellRow) (xs : List CellRow) → is_on cell x ≡ true → AllByRecursion (λ y. is_on (cell_in x) y ≡ false) xs → filter (is_on cell) xs ≡ []
none_on cell x [] here apart = refl
none_on cell x (y ∷ xs) here apart =
    let off : is_on cell y ≡ false = ap (λ (c : Cell). is_on c y) (sym (on_is cell x here)) ∙ apart.0 in
    rw off (none_on cell x xs here apart.1)

pub at_most_one : (cell : Cell) (xs : List CellRow) → AreApart (λ a b. is_on (cell_in a) b) xs → length (filter (is_on cell) xs) ≤ 1
at_most_one cell [] apart = omega arith
at_most_one cell (x ∷ xs) apart = elim (cases_Bool (is_on cell x)) [
  | inl here ↦ rw (here, none_on cell x xs here apart.0) (omega arith)
  | inr there ↦ rw there (at_most_one cell xs apart.1)
]

pub few_permutation : {X : Type 0} (xs ys : List X) → length xs ≤ 1 → IsPermutation xs ys → ys ≡ xs
few_permutation [] [] few same = refl
few_permutation [] (y ∷ ys) few same = absurd (omega (arith, length_permutation [] (y ∷ ys) same))
few_permutation (x ∷ []) ys few same = one_permutation x ys same
few_permutation (x ∷ z ∷ xs) ys few same = absurd (omega arith)

-- ---- what the map has

pub found_is : (cell : Cell) (xs : List CellRow) → get (map_of xs) cell ≡ find cell_cmp cell (map entry_in xs)
found_is cell xs = get-from_entries cells_total (map entry_in xs) cell

pub found_first : (cell : Cell) (xs : List CellRow) → filter (is_on cell) xs ≡ [] → get (map_of xs) cell ≡ None
found_first cell xs none = found_is cell xs ∙ go xs none
  where
    go : (ys : List CellRow) → filter (is_on cell) ys ≡ [] → find cell_cmp cell (map entry_in ys) ≡ None
    go [] h = refl
    go (y ∷ ys) h = elim (cases_Bool (is_on cell y)) [
      | inl here ↦ absurd (let e = rw here at h in cc)
      | inr there ↦ rw there (go ys (rw there at h))
    ]

pub found_one : (cell : Cell) (xs : List CellRow) (x : CellRow) → filter (is_on cell) xs ≡ x ∷ [] → get (map_of xs) cell ≡ Some x.val
found_one cell xs x one = found_is cell xs ∙ go xs one
  where
    go : (ys : List CellRow) → filter (is_on cell) ys ≡ x ∷ [] → find cell_cmp cell (map entry_in ys) ≡ Some x.val
    go [] h = absurd cc
    go (y ∷ ys) h = elim (cases_Bool (is_on cell y)) [
      | inl here ↦ rw here (let e = rw here at h in let same : y ≡ x = cc in ap (λ (z : CellRow). Some z.val) same)
      | inr there ↦ rw there (go ys (rw there at h))
    ]

-- ---- a cell's rows are taken out

find_kept : (cell q : Cell) (xs : List CellRow) → find cell_cmp q (map entry_in (delete_where (is_on cell) xs)) ≡ cond (eq_by_cmp cell_cmp q cell) None (find cell_cmp q (map entry_in xs))
find_kept cell q [] = elim (eq_by_cmp cell_cmp q cell) as (λ b. ◌≡◌ {A = Option (List ℕ)} None (cond b None None)) [ true ↦ refl | false ↦ refl ]
find_kept cell q (x ∷ xs) = elim (cases_Bool (is_on cell x)) [
  | inl here ↦ rw here (find_kept cell q xs ∙ elim (cases_Bool (eq_by_cmp cell_cmp q cell)) [
    | inl same ↦ rw same refl
    | inr apart ↦ rw apart (let off : is_on q x ≡ false = ap (eq_by_cmp cell_cmp q) (on_is cell x here) ∙ apart in rw off refl)
  ])
  | inr there ↦ rw there (elim (cases_Bool (is_on q x)) [
    | inl found ↦
        let apart : eq_by_cmp cell_cmp q cell ≡ false = at_others q cell (λ same. true≢false (sym (ap (λ (c : Cell). is_on c x) same ∙ found) ∙ there)) in
        rw (found, apart) refl
    | inr lost ↦ rw lost (find_kept cell q xs)
  ])
]

pub map_without : (cell : Cell) (xs : List CellRow) → map_of (delete_where (is_on cell) xs) ≡ remove (map_of xs) cell
map_without cell xs = same_map cells_total exact_cells _ _ (λ q.
    found_is q (delete_where (is_on cell) xs) ∙ find_kept cell q xs ∙ ap (cond (eq_by_cmp cell_cmp q cell) None) (sym (found_is q xs)) ∙ sym (get-remove cells_total (map_of xs) cell q))

-- the rows with some rowids are taken out, in any order
pub takes_out : (cell : Cell) (xs : List CellRow) (rows : List Row) (ids : List ℤ) → AreRowsOf xs rows → IsPermutation (map id_of (filter (is_on cell) xs)) ids
    → AreRowsOf (delete_where (is_on cell) xs) (without_all rows ids)
takes_out cell xs rows ids of same =
    let few : length (map id_of (filter (is_on cell) xs)) ≤ 1 = rw length-map (at_most_one cell xs of.apart) in
    let ids_are : ids ≡ map id_of (filter (is_on cell) xs) = few_permutation _ ids few same in
    record {
      typed = ap₂ without_all of.typed ids_are ∙ deletes-map id_of to_row (λ x. refl) (map id_of (filter (is_on cell) xs)) xs ∙ ap (map to_row) (removes_delete id_of (is_on cell) xs of.keyed);
      keyed = IsKeyedBy-delete_where id_of (is_on cell) xs of.keyed;
      apart = apart_delete (λ a b. is_on (cell_in a) b) (is_on cell) xs of.apart;
    }

-- ---- a row is put in behind the others

next_is : (xs : List CellRow) (first : ℤ) → fold (λ _ r. id_in (rowid r) +ℤ pos 1) first (map to_row xs) ≡ fold (λ _ x. id_of x +ℤ pos 1) first xs
next_is [] first = refl
next_is (x ∷ xs) first = next_is xs (id_of x +ℤ pos 1)

apart_push : (xs : List CellRow) (new : CellRow) → filter (is_on (cell_in new)) xs ≡ [] → AllByRecursion (λ x. AllByRecursion (λ y. is_on (cell_in x) y ≡ false) (new ∷ [])) xs
apart_push [] new none = tt
apart_push (x ∷ xs) new none = elim (cases_Bool (is_on (cell_in new) x)) [
  | inl here ↦ absurd (let e = rw here at none in cc)
  | inr there ↦ (((eq_by_cmp_equiv cells_total).symm (cell_in x) (cell_in new) ∙ there, tt), apart_push xs new (rw there at none))
]

pub puts_in : (xs : List CellRow) (rows : List Row) (tab : ℕ) (key val : List ℕ) → AreRowsOf xs rows → filter (is_on (tab, key)) xs ≡ []
    → AreRowsOf (xs ++ record { id = next_key id_of xs; tab = tab; key = key; val = val } ∷ []) (put_row (Int (next_rowid rows) ∷ Int (pos tab) ∷ Blob key ∷ Blob val ∷ []) rows)
puts_in xs rows tab key val of none =
    let new : CellRow = record { id = next_key id_of xs; tab = tab; key = key; val = val } in
    let number : next_rowid rows ≡ next_key id_of xs = ap next_rowid of.typed ∙ next_is xs (pos 1) in
    let last = insert_next id_of xs new of.keyed refl in
    record {
      typed = ap₂ (λ (id : ℤ) (rs : List Row). put_row (Int id ∷ Int (pos tab) ∷ Blob key ∷ Blob val ∷ []) rs) number of.typed ∙ puts-map id_of to_row (λ x. refl) (new ∷ []) xs ∙ ap (map to_row) last;
      keyed = subst (IsKeyedBy id_of) last (IsKeyedBy-insert_by id_of xs new of.keyed);
      apart = ascending-append (λ a b. is_on (cell_in a) b ≡ false) xs (new ∷ []) of.apart (tt, tt) (apart_push xs new none);
    }

missed : (cell : Cell) (xs : List CellRow) → filter (is_on cell) xs ≡ [] → find cell_cmp cell (map entry_in xs) ≡ None
missed cell xs none = sym (found_is cell xs) ∙ found_first cell xs none

pub map_with : (xs : List CellRow) (new : CellRow) → filter (is_on (cell_in new)) xs ≡ [] → map_of (xs ++ new ∷ []) ≡ insert (map_of xs) (cell_in new) new.val
map_with xs new none = ap from_entries (map-append entry_in xs (new ∷ [])) ∙ from_entries_push cells_total exact_cells (map entry_in xs) (cell_in new) new.val (missed (cell_in new) xs none)

-- no row of the cell is left where the map has none there
pub none_left : (cell : Cell) (xs : List CellRow) → get (map_of xs) cell ≡ None → filter (is_on cell) xs ≡ []
none_left cell xs none = go xs (sym (found_is cell xs) ∙ none)
  where
    go : (ys : List CellRow) → find cell_cmp cell (map entry_in ys) ≡ None → filter (is_on cell) ys ≡ []
    go [] h = refl
    go (y ∷ ys) h = elim (cases_Bool (is_on cell y)) [
      | inl here ↦ absurd (let e = rw here at h in cc)
      | inr there ↦ rw there (go ys (rw there at h))
    ]

-- ---- a row is put in at a free rowid

find_put : (q : Cell) (zs : List CellRow) (new : CellRow) → AllByRecursion (λ y. int_eq y.id new.id ≡ false) zs → AllByRecursion (λ y. is_on (cell_in new) y ≡ false) zs
    → find cell_cmp q (map entry_in (insert_by id_of zs new)) ≡ cond (eq_by_cmp cell_cmp q (cell_in new)) (Some new.val) (find cell_cmp q (map entry_in zs))
find_put q [] new free none = refl
find_put q (z ∷ zs) new free none = go (int_cmp z.id new.id) refl (find_put q zs new free.1 none.1)
  where
    swapped : (a b : Bool) (rest : Option (List ℕ)) → (a ≡ true → b ≡ true → ⊥) → cond a (Some z.val) (cond b (Some new.val) rest) ≡ cond b (Some new.val) (cond a (Some z.val) rest)
    swapped true true rest apart = absurd (apart refl refl)
    swapped true false rest apart = refl
    swapped false b rest apart = refl

    clash : is_on q z ≡ true → eq_by_cmp cell_cmp q (cell_in new) ≡ true → ⊥
    clash here there =
        let a : cell_in z ≡ q = on_is q z here in
        let b : q ≡ cell_in new = exact_cells q (cell_in new) (equal_of _ there) in
        let on : is_on (cell_in new) z ≡ true = ap (λ (c : Cell). is_on c z) (sym (a ∙ b)) ∙ at_itself (cell_in z) in
        true≢false (sym on ∙ none.0)

    go : (o : Ordering) → int_cmp z.id new.id ≡ o → find cell_cmp q (map entry_in (insert_by id_of zs new)) ≡ cond (eq_by_cmp cell_cmp q (cell_in new)) (Some new.val) (find cell_cmp q (map entry_in zs))
        → find cell_cmp q (map entry_in (match_ordering o (z ∷ insert_by id_of zs new) (new ∷ zs) (new ∷ z ∷ zs))) ≡ cond (eq_by_cmp cell_cmp q (cell_in new)) (Some new.val) (find cell_cmp q (map entry_in (z ∷ zs)))
    go Less e more = ap (λ (o : Option (List ℕ)). cond (is_on q z) (Some z.val) o) more ∙ swapped (is_on q z) (eq_by_cmp cell_cmp q (cell_in new)) (find cell_cmp q (map entry_in zs)) clash
    go Equal e more = absurd (true≢false (sym (ap is_eq e) ∙ free.0))
    go Greater e more = refl

pub map_put : (zs : List CellRow) (new : CellRow) → AllByRecursion (λ y. int_eq y.id new.id ≡ false) zs → AllByRecursion (λ y. is_on (cell_in new) y ≡ false) zs
    → map_of (insert_by id_of zs new) ≡ insert (map_of zs) (cell_in new) new.val
map_put zs new free none = same_map cells_total exact_cells _ _ (λ q.
    found_is q (insert_by id_of zs new) ∙ find_put q zs new free none ∙ ap (cond (eq_by_cmp cell_cmp q (cell_in new)) (Some new.val)) (sym (found_is q zs)) ∙ sym (get-insert cells_total (map_of zs) (cell_in new) new.val q))

pub none_kept : (cell : Cell) (xs : List CellRow) → AllByRecursion (λ y. is_on cell y ≡ false) (delete_where (is_on cell) xs)
none_kept cell [] = tt
none_kept cell (x ∷ xs) = elim (cases_Bool (is_on cell x)) [
  | inl here ↦ rw here (none_kept cell xs)
  | inr there ↦ rw there (there, none_kept cell xs)
]

free_rows : (zs : List CellRow) (id : ℤ) → list_any (λ r. is_eq (value_cmp (rowid r) (Int id))) (map to_row zs) ≡ false → AllByRecursion (λ y. int_eq y.id id ≡ false) zs
free_rows [] id h = tt
free_rows (z ∷ zs) id h = let parts = or_parts _ _ h in (ap is_eq (sym (value_cmp-Int z.id id)) ∙ parts.0, free_rows zs id parts.1)

not_clashing : (new : CellRow) (zs : List CellRow) → AllByRecursion (λ y. is_on (cell_in new) y ≡ false) zs → AllByRecursion (λ y. (not (int_eq y.id new.id) && is_on (cell_in y) new) ≡ false) zs
not_clashing new [] h = tt
not_clashing new (z ∷ zs) h = (and_right _ _ ((eq_by_cmp_equiv cells_total).symm (cell_in z) (cell_in new) ∙ h.0), not_clashing new zs h.1)

-- the rows with one more, and their map
pub put_free : (zs : List CellRow) (rows : List Row) (new : CellRow) → AreRowsOf zs rows → is_taken rows (to_row new) ≡ false → AllByRecursion (λ y. is_on (cell_in new) y ≡ false) zs
    → AreRowsOf (insert_by id_of zs new) (put_row (to_row new) rows) × (map_of (insert_by id_of zs new) ≡ insert (map_of zs) (cell_in new) new.val)
put_free zs rows new of free none =
    let ids = free_rows zs new.id (ap (list_any (λ r. is_eq (value_cmp (rowid r) (Int new.id)))) (sym of.typed) ∙ free) in (
      record {
        typed = ap (put_row (to_row new)) of.typed ∙ puts-map id_of to_row (λ x. refl) (new ∷ []) zs;
        keyed = IsKeyedBy-insert_by id_of zs new of.keyed;
        apart = apart_insert (λ a b. is_on (cell_in a) b) id_of (λ a b. (eq_by_cmp_equiv cells_total).symm (cell_in a) (cell_in b)) zs new of.keyed (ap not (any_from_none _ zs (not_clashing new zs none))) of.apart;
      },
      map_put zs new ids none,
    )

-- ---- the row with a rowid

ids_past : (x : CellRow) (xs : List CellRow) → AllByRecursion (λ y. x.id <ℤ y.id) xs → filter (λ y. int_eq y.id x.id) xs ≡ []
ids_past x [] h = refl
ids_past x (y ∷ xs) h = let low = h.0 in let off : int_eq y.id x.id ≡ false = grind (arith, ints) in rw off (ids_past x xs h.1)

pub row_of_id : (x : CellRow) (xs : List CellRow) → IsKeyedBy id_of xs → Has xs x → filter (λ y. int_eq y.id x.id) xs ≡ x ∷ []
row_of_id x [] up h = absurd h
row_of_id x (y ∷ xs) up (inl same) =
    let here : int_eq y.id x.id ≡ true = ap (λ (z : CellRow). int_eq z.id x.id) (sym same) ∙ (let e : int_eq x.id x.id ≡ true = grind (arith, ints) in e) in
    rw here (ap₂ ◌∷◌ (sym same) (ids_past x xs (subst (λ (z : CellRow). AllByRecursion (λ w. z.id <ℤ w.id) xs) (sym same) up.0)))
row_of_id x (y ∷ xs) up (inr later) =
    let low : y.id <ℤ x.id = all_there xs up.0 later in
    let off : int_eq y.id x.id ≡ false = grind (arith, ints) in
    rw off (row_of_id x xs up.1 later)
  where
    all_there : (zs : List CellRow) → AllByRecursion (λ w. y.id <ℤ w.id) zs → Has zs x → y.id <ℤ x.id
    all_there [] all there = absurd there
    all_there (z ∷ zs) all (inl is) = subst (λ (w : CellRow). y.id <ℤ w.id) (sym is) all.0
    all_there (z ∷ zs) all (inr there) = all_there zs all.1 there

-- of one cell there is one row
pub alone_on : (x : CellRow) (xs : List CellRow) (cell : Cell) → AreApart (λ a b. is_on (cell_in a) b) xs → Has xs x → is_on cell x ≡ true → filter (is_on cell) xs ≡ x ∷ []
alone_on x [] cell apart h on = absurd h
alone_on x (y ∷ xs) cell apart (inl same) on =
    let here : is_on cell y ≡ true = ap (is_on cell) (sym same) ∙ on in
    rw (here, none_on cell y xs here apart.0) (ap (λ (z : CellRow). z ∷ []) (sym same))
alone_on x (y ∷ xs) cell apart (inr later) on = elim (cases_Bool (is_on cell y)) [
  | inl here ↦
      let rest : filter (is_on cell) xs ≡ x ∷ [] = alone_on x xs cell apart.1 later on in
      let none = none_on cell y xs here apart.0 in absurd (let e = sym none ∙ rest in cc)
  | inr off ↦ rw off (alone_on x xs cell apart.1 later on)
]

pub has_row : (xs : List CellRow) (r : Row) → Has (map to_row xs) r → (x : CellRow) × Has xs x × (r ≡ to_row x)
has_row [] r h = absurd h
has_row (x ∷ xs) r (inl is) = (x, inl refl, is)
has_row (x ∷ xs) r (inr later) = let it = has_row xs r later in (it.0, inr it.1, it.2)

pub row_has : (xs : List CellRow) (x : CellRow) → Has xs x → Has (map to_row xs) (to_row x)
row_has [] x h = absurd h
row_has (y ∷ xs) x (inl is) = inl (ap to_row is)
row_has (y ∷ xs) x (inr later) = inr (row_has xs x later)

pub none_if : (cell : Cell) (xs : List CellRow) → ((x : CellRow) → Has xs x → is_on cell x ≡ true → ⊥) → filter (is_on cell) xs ≡ []
none_if cell [] h = refl
none_if cell (x ∷ xs) h = elim (cases_Bool (is_on cell x)) [
  | inl here ↦ absurd (h x (inl refl) here)
  | inr off ↦ rw off (none_if cell xs (λ y there. h y (inr there)))
]

pub all_off : (cell : Cell) (xs : List CellRow) → filter (is_on cell) xs ≡ [] → AllByRecursion (λ y. is_on cell y ≡ false) xs
all_off cell [] h = tt
all_off cell (x ∷ xs) h = elim (cases_Bool (is_on cell x)) [
  | inl here ↦ absurd (let e = rw here at h in cc)
  | inr off ↦ (off, all_off cell xs (rw off at h))
]
