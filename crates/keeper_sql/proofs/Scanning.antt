-- What the selection of a table's rows shows.
use Rattle.std.proofs.Common.{◌≡◌, ◌≤◌, ◌&&◌, ◌++◌, ℕ, zero, suc, ℤ, pos, negsuc, List, [], ◌∷◌, map, filter, codes, length, Bool, true, false, cond, Option, Some, None, refl, sym, ap, ap₂, subst, ◌∙◌, arith, inl, inr, IsPermutation, IsSorted, Ordering, Less, Equal, is_eq, true≢false}
use Rattle.std.specs.List.{AllByRecursion, Contains, flat_map}
use Rattle.std.specs.List.Sorted.{IsStrictlySortedBy}
use Rattle.std.specs.Ordering.{eq_by_cmp, nat_cmp, ordering_then}
use Rattle.std.specs.Cmp.{IsTotalOrder, on_total, tied_itself, nat_cmp_total}
use Rattle.std.specs.Cmp.Lexicographic.{slice_cmp, nat_list_cmp_total}
use Rattle.std.specs.FinMap.{get, find}
use Rattle.std.proofs.lemmas.Bool.{cases_Bool}
use Rattle.std.proofs.lemmas.List.Sorted.{IsPermutation-map, Contains-permutation, IsPermutation-sym}
use Rattle.std.proofs.lemmas.List.Elements.{Contains-append_right}
use Rattle.sqlite.specs.declared.types.Value.TheVariants.{Null, Int, Blob}
use Rattle.sqlite.specs.Collation.TheVariants.{Binary}
use Rattle.sqlite.specs.Order.{Row, column, value_cmp}
use Rattle.sqlite.specs.Ops.{binary}
use Rattle.sqlite.specs.Term.{Term, lit, col, op2, holds}
use Rattle.sqlite.specs.Query.{Query, IsAnswer, Output, output, output_cmp, inner, end}
use Rattle.sqlite.specs.Program.{overlay}
use Rattle.sqlite.specs.Command.TheVariants.{Select}
use Rattle.sqlite.specs.Clock.{timed}
use Rattle.sqlite_value.specs.Keys.{ascending}
use Rattle.sqlite_value.proofs.OrderLemmas.{value_cmp-Int, value_cmp-Blob}
use Rattle.sqlite_sql.specs.declared.ops.BinaryOp.TheVariants.{Compare}
use Rattle.sqlite_sql.specs.declared.ops.CompareOp.TheVariants.{Eq}
use Rattle.sqlite_sql.proofs.QueryLemmas.{output_cmp_total}
use Rattle.sqlite_tied.specs.Compute.{everything}
use Rattle.sqlite_trees.specs.Tree.{IsAscending}
use Rattle.sqlite.specs.Listing.{understood, reads_listing}
use Rattle.sqlite.specs.State.{State, Shown, ShowsRows, IsUnchanged}
use Rattle.sqlite.proofs.Callers.{IsPlain, command_of, reads_as, one_permutation}
use Rattle.sqlite_keyed.specs.Lists.{sort_by}
use Rattle.sqlite_keyed.proofs.ListLemmas.{map-map, filter-map, filter_same, ascending-map, ascending_weaker, IsPermutation-filter}
use Rattle.sqlite_keyed.proofs.SortLemmas.{sorted_is-sort_by, sort_by-map, IsPermutation-sort_by}
use Rattle.keeper_core.specs.declared.row.Row as keeper
use Rattle.keeper_core.specs.Tables.{Cell, cell_cmp, rows_of}
use Rattle.keeper_core.proofs.Numbered.{equal_of}
use Rattle.keeper_core.proofs.Batched.{at_itself}
use Rattle.keeper_core.proofs.OneListing.{is_the_scan, Ascends}
use Rattle.keeper_sql.specs.Statements.{scan_text, the_schema}
use Rattle.keeper_sql.specs.CellRows.{CellRow, cell_in, to_row, from_row, entry_in, map_of, is_on, tables_in, IsKept, AreRowsOf, scan_row, keeper_row}
use Rattle.keeper_sql.proofs.CellLists.{found_is, found_one, at_most_one, same_order}
use Rattle.keeper_sql.proofs.Selecting.{truth_of}
use Rattle.keeper_sql.proofs.Sorting.{rises-sort_by, all-sort_by}

abbrev in_table_text : List Term
in_table_text = op2 (Compare Eq Binary) (col 1 1) (col 0 0) ∷ []

abbrev scan_query : Query
scan_query = record {
  from = inner 0 end;
  filter = in_table_text;
  group = None;
  project = col 1 2 ∷ col 1 3 ∷ [];
  distinct = false;
  collations = [];
  order = (col 1 2, ascending Binary) ∷ [];
  limit = lit (Int (negsuc 0));
  offset = lit (Int (pos 0));
}

scan_is : (command_of (understood the_schema scan_text) ≡ Select (record { lets = []; body = scan_query }) (codes "key" ∷ codes "val" ∷ [])) × (reads_listing the_schema scan_text ≡ false)
unfolding understood everything
scan_is = (refl, refl)

pub scan_plain : IsPlain (understood the_schema scan_text)
unfolding understood everything
scan_plain = (refl, refl)

pub scan_leaves : (old new : State) (tab : ℕ) (rows : List Row) → old.now.schema ≡ the_schema → Shown scan_text (Int (pos tab) ∷ []) old new rows → IsUnchanged old new
unfolding Shown
scan_leaves old new tab rows has h =
    let full = timed (Int (pos tab) ∷ []) h.0.formats h.1.now in
    let known = sym h.1.is ∙ ap (λ s. understood s scan_text) has in
    let bare = subst IsPlain (sym known) scan_plain in
    let it = subst (ShowsRows old new scan_text h.0 full rows) bare.0 h.2 in
    it.3

-- ---- the rows of the table

abbrev is_in : ℕ → CellRow → Bool
is_in tab x = is_eq (nat_cmp x.tab tab)

abbrev asks : ℕ → Row → Bool
asks tab row = Rattle.std.specs.List.list_all (holds ((Int (pos tab) ∷ []) ∷ row ∷ [])) in_table_text

and_true : (b : Bool) → (b && true) ≡ b
and_true true = refl
and_true false = refl

asks_is : (tab : ℕ) (x : CellRow) → asks tab (to_row x) ≡ is_in tab x
unfolding binary value_cmp
asks_is tab x = ap (λ b. b && true) (truth_of (is_eq (value_cmp (Int (pos x.tab)) (Int (pos tab))))) ∙ and_true _ ∙ ap is_eq (value_cmp-Int (pos x.tab) (pos tab) ∙ same_order x.tab tab)

asked : (tab : ℕ) (rows : List Row) → flat_map (λ r. cond (asks tab r) (((Int (pos tab) ∷ []) ∷ r ∷ []) ∷ []) []) rows ≡ map (λ r. (Int (pos tab) ∷ []) ∷ r ∷ []) (filter (asks tab) rows)
asked tab [] = refl
asked tab (r ∷ rows) = go (asked tab rows) (asks tab r)
  where
    go : flat_map (λ r. cond (asks tab r) (((Int (pos tab) ∷ []) ∷ r ∷ []) ∷ []) []) rows ≡ map (λ r. (Int (pos tab) ∷ []) ∷ r ∷ []) (filter (asks tab) rows) → (b : Bool)
        → cond b (((Int (pos tab) ∷ []) ∷ r ∷ []) ∷ []) [] ++ flat_map (λ r. cond (asks tab r) (((Int (pos tab) ∷ []) ∷ r ∷ []) ∷ []) []) rows ≡ map (λ r. (Int (pos tab) ∷ []) ∷ r ∷ []) (cond b (r ∷ filter (asks tab) rows) (filter (asks tab) rows))
    go more true = ap (λ es. ((Int (pos tab) ∷ []) ∷ r ∷ []) ∷ es) more
    go more false = more

-- what a row is sorted by, and what it shows
abbrev out : CellRow → Output
out x = (Blob x.key ∷ [], Blob x.key ∷ Blob x.val ∷ [])

outputs : (params : Row) (ys : List CellRow) → map (output scan_query) (map (λ r. params ∷ r ∷ []) (map to_row ys)) ≡ map out ys
outputs params [] = refl
outputs params (y ∷ ys) = ap (λ os. out y ∷ os) (outputs params ys)

-- ---- in the order of the keys

abbrev key_order : CellRow → CellRow → Ordering
key_order a b = slice_cmp nat_cmp a.key b.key

key_order_total : IsTotalOrder key_order
key_order_total = on_total (λ (x : CellRow). x.key) nat_list_cmp_total

then_equal : (o : Ordering) → ordering_then o Equal ≡ o
then_equal Less = refl
then_equal Equal = refl
then_equal Rattle.std.proofs.Common.Greater = refl

by_key_alone : (a b : CellRow) → output_cmp scan_query (out a) (out b) ≡ key_order a b
by_key_alone a b = then_equal (value_cmp (Blob a.key) (Blob b.key)) ∙ value_cmp-Blob a.key b.key

in_one_table : (tab : ℕ) (a b : CellRow) → is_in tab a ≡ true → is_in tab b ≡ true → is_on (cell_in a) b ≡ false → is_eq (key_order a b) ≡ false
in_one_table tab a b ha hb apart =
    let ea : a.tab ≡ tab = Rattle.std.proofs.lemmas.Map.Lookups.exact_unsigned a.tab tab (equal_of _ ha) in
    let eb : b.tab ≡ tab = Rattle.std.proofs.lemmas.Map.Lookups.exact_unsigned b.tab tab (equal_of _ hb) in
    let same : nat_cmp a.tab b.tab ≡ Equal = rw (ea, eb) (tied_itself nat_cmp_total tab) in
    rw same at apart

no_ties : (tab : ℕ) (xs : List CellRow) → IsAscending (λ a b. is_on (cell_in a) b ≡ false) xs → IsAscending (λ a b. is_eq (key_order a b) ≡ false) (filter (is_in tab) xs)
no_ties tab [] up = tt
no_ties tab (x ∷ xs) up = elim (cases_Bool (is_in tab x)) [
  | inl here ↦ rw here (later here xs up.0, no_ties tab xs up.1)
  | inr there ↦ rw there (no_ties tab xs up.1)
]
  where
    later : is_in tab x ≡ true → (ys : List CellRow) → AllByRecursion (λ b. is_on (cell_in x) b ≡ false) ys → AllByRecursion (λ b. is_eq (key_order x b) ≡ false) (filter (is_in tab) ys)
    later here [] all = tt
    later here (y ∷ ys) all = elim (cases_Bool (is_in tab y)) [
      | inl is ↦ rw is (in_one_table tab x y here is all.0, later here ys all.1)
      | inr not ↦ rw not (later here ys all.1)
    ]

-- ---- they are the scan of the map

rising_keys : (ys : List CellRow) → IsAscending (λ a b. key_order a b ≡ Less) ys → Ascends (map keeper_row ys)
unfolding IsStrictlySortedBy
rising_keys [] up = tt
rising_keys (y ∷ ys) up = (go ys up.0, rising_keys ys up.1)
  where
    go : (zs : List CellRow) → AllByRecursion (λ b. key_order y b ≡ Less) zs → AllByRecursion (λ key. slice_cmp nat_cmp y.key key ≡ Less) (map (λ row. row.key) (map keeper_row zs))
    go [] all = tt
    go (z ∷ zs) all = (all.0, go zs all.1)

here_first : {X : Type 0} (x : X) (xs : List X) → Contains (x ∷ xs) x
here_first x xs = (0, omega arith, refl)

-- a cell that the map has stands in the rows of its table
listed_in : (tab : ℕ) (key val : List ℕ) (xs : List CellRow) → find cell_cmp (tab, key) (map entry_in xs) ≡ Some val → Contains (map keeper_row (filter (is_in tab) xs)) (record { key = key; val = val })
listed_in tab key val [] found = absurd cc
listed_in tab key val (x ∷ xs) found = elim (cases_Bool (is_on (tab, key) x)) [
  | inl here ↦
      let cell : cell_in x ≡ (tab, key) = Rattle.keeper_sql.proofs.CellLists.on_is (tab, key) x here in
      let is_val : x.val ≡ val = (let e = rw here at found in cc) in
      let number : is_in tab x ≡ true = ap (λ (c : Cell). is_eq (nat_cmp c.0 tab)) cell ∙ ap is_eq (tied_itself nat_cmp_total tab) in
      let first : keeper_row x ≡ record { key = key; val = val } = (λ i. record { key = (cell i).1; val = is_val i }) in
      rw number (0, omega arith, first)
  | inr apart ↦
      let rest = listed_in tab key val xs (rw apart at found) in
      elim (cases_Bool (is_in tab x)) [
        | inl in_table ↦ rw in_table (Contains-append_right (keeper_row x ∷ []) (map keeper_row (filter (is_in tab) xs)) (record { key = key; val = val }) rest)
        | inr other ↦ rw other rest
      ]
]

has_each : (xs : List CellRow) → IsAscending (λ a b. is_on (cell_in a) b ≡ false) xs → AllByRecursion (λ y. find cell_cmp (cell_in y) (map entry_in xs) ≡ Some y.val) xs
has_each [] up = tt
has_each (x ∷ xs) up = (rw (at_itself (cell_in x)) refl, go xs up.0 (has_each xs up.1))
  where
    go : (ys : List CellRow) → AllByRecursion (λ b. is_on (cell_in x) b ≡ false) ys → AllByRecursion (λ y. find cell_cmp (cell_in y) (map entry_in xs) ≡ Some y.val) ys
        → AllByRecursion (λ y. find cell_cmp (cell_in y) (map entry_in (x ∷ xs)) ≡ Some y.val) ys
    go [] apart all = tt
    go (y ∷ ys) apart all =
        let off : is_on (cell_in y) x ≡ false = (Rattle.std.specs.Cmp.eq_by_cmp_equiv Rattle.keeper_core.proofs.Numbered.cells_total).symm (cell_in y) (cell_in x) ∙ apart.0 in
        (rw off all.0, go ys apart.1 all.1)

has_kept : (tab : ℕ) (all xs : List CellRow) (row : keeper.Row) → AllByRecursion (λ y. find cell_cmp (cell_in y) (map entry_in all) ≡ Some y.val) xs
    → Contains (map keeper_row (filter (is_in tab) xs)) row → find cell_cmp (tab, row.key) (map entry_in all) ≡ Some row.val
has_kept tab all [] row each (k, lt, is) = absurd (omega arith)
has_kept tab all (x ∷ xs) row each there = elim (cases_Bool (is_in tab x)) [
  | inl here ↦
      let number : x.tab ≡ tab = Rattle.std.proofs.lemmas.Map.Lookups.exact_unsigned x.tab tab (equal_of _ here) in
      elim (Rattle.keeper_core.proofs.Scanned.contains_cases (keeper_row x) row (map keeper_row (filter (is_in tab) xs)) (rw here at there)) [
        | inl is ↦
            let cell : cell_in x ≡ (tab, row.key) = (λ i. (number i, (is i).key)) in
            ap (λ (c : Cell). find cell_cmp c (map entry_in all)) (sym cell) ∙ each.0 ∙ ap (λ (r : keeper.Row). Some r.val) is
        | inr later ↦ has_kept tab all xs row each.1 later
      ]
  | inr other ↦ has_kept tab all xs row each.1 (rw other at there)
]

sorted_rows : (tab : ℕ) (xs : List CellRow) → IsAscending (λ a b. is_on (cell_in a) b ≡ false) xs → rows_of tab (map_of xs) ≡ map keeper_row (sort_by key_order (filter (is_in tab) xs))
sorted_rows tab xs apart =
    let ys = filter (is_in tab) xs in
    let zs = sort_by key_order ys in
    let same : IsPermutation (map keeper_row zs) (map keeper_row ys) = IsPermutation-map keeper_row zs ys (IsPermutation-sort_by key_order key_order_total ys) in
    is_the_scan tab (map_of xs) (map keeper_row zs) (rising_keys zs (rises-sort_by key_order key_order_total ys (no_ties tab xs apart)))
    (λ row has. Contains-permutation _ _ row (IsPermutation-sym _ _ same) (listed_in tab row.key row.val xs (sym (found_is (tab, row.key) xs) ∙ has)))
    (λ row there. found_is (tab, row.key) xs ∙ has_kept tab xs xs row (has_each xs apart) (Contains-permutation _ _ row same there))

second_of_outs : (zs : List CellRow) → map (λ (o : Output). o.1) (map out zs) ≡ map scan_row (map keeper_row zs)
second_of_outs [] = refl
second_of_outs (z ∷ zs) = ap (λ rs. (Blob z.key ∷ Blob z.val ∷ []) ∷ rs) (second_of_outs zs)

-- what the selection of a table's rows shows is the scan of the map
pub shows_table : (old new : State) (tab : ℕ) (rows : List Row) → IsKept old.now → Shown scan_text (Int (pos tab) ∷ []) old new rows
    → rows ≡ map scan_row (rows_of tab (tables_in old.now))
shows_table old new tab rows fine shown =
    let params = Int (pos tab) ∷ [] in
    let db = old.now.trees in
    let xs = map from_row (db 0) in
    let ys = filter (is_in tab) xs in
    let read = reads_as scan_text params old new the_schema fine.schema (Select (record { lets = []; body = scan_query }) (codes "key" ∷ codes "val" ∷ [])) scan_is.0 scan_plain scan_is.1 rows shown in
    let a : IsAnswer scan_query (overlay db []) params rows = read.answer Null in
    let staged : a.staged ≡ map (λ r. params ∷ r ∷ []) (filter (asks tab) (db 0)) = a.grouped ∙ asked tab (db 0) in
    let found : filter (asks tab) (db 0) ≡ map to_row ys = ap (filter (asks tab)) fine.rows.typed ∙ filter-map (asks tab) to_row xs ∙ ap (map to_row) (filter_same _ _ (asks_is tab) xs) in
    let kept : a.kept ≡ map out ys = a.distinct ∙ ap (map (output scan_query)) (staged ∙ ap (map (λ r. params ∷ r ∷ [])) found) ∙ outputs params ys in
    let same : IsPermutation (map out ys) a.ordered = subst (λ k. IsPermutation k a.ordered) kept a.same in
    let ties : IsAscending (λ a b. is_eq (output_cmp scan_query a b) ≡ false) (map out ys) =
    ascending-map (λ a b. is_eq (output_cmp scan_query a b) ≡ false) out ys (ascending_weaker _ (λ a b. is_eq (output_cmp scan_query (out a) (out b)) ≡ false) (λ a b h. ap is_eq (by_key_alone a b) ∙ h) ys (no_ties tab xs fine.rows.apart)) in
    let sorted : a.ordered ≡ map out (sort_by key_order ys) =
    sorted_is-sort_by (output_cmp scan_query) (output_cmp_total scan_query) (map out ys) a.ordered ties same a.sorted
    ∙ sort_by-map (output_cmp scan_query) out ys ∙ (λ i. map out (sort_by (λ a b. by_key_alone a b i) ys)) in
    let shown_is : rows ≡ map (λ (o : Output). o.1) a.ordered = a.shown in
    shown_is ∙ ap (map (λ (o : Output). o.1)) sorted ∙ second_of_outs (sort_by key_order ys) ∙ ap (map scan_row) (sym (sorted_rows tab xs fine.rows.apart))
