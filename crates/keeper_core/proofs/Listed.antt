-- The rows of one table among all cells.
use Rattle.std.proofs.Common.{◌≡◌, ◌≢◌, ℕ, zero, suc, ◌+◌, ◌<◌, ◌≤◌, ◌==◌, T, List, [], ◌∷◌, ◌++◌, map, length, get_or, Some, None, refl, sym, ap, ◌∙◌, arith, append-nil}
use Rattle.std.specs.List.{filter}
use Rattle.std.specs.declared.cmp.Ordering.{Ordering}
use Rattle.std.specs.Ordering.{is_lt, nat_cmp, ordering_then}
use Rattle.std.specs.Cmp.{nat_cmp_total, tied_itself}
use Rattle.std.specs.Cmp.Lexicographic.{slice_cmp}
use Rattle.std.specs.FinMap.{entries, entries_sorted, from_entries, is_sorted}
use Rattle.std.specs.FinMap.Entries.{below_all}
use Rattle.std.proofs.lemmas.Bool.{ne_eqb, eq-eqb, lt-ltb}
use Rattle.keeper_core.specs.declared.row.Row.{Row}
use Rattle.keeper_core.specs.Tables.{Cell, cell_cmp, rows_of}
use Rattle.keeper_core.specs.Slots.{Slot, TableSlots, Slots, rows_in, full_in, filled}
use Rattle.keeper_core.specs.Laying.{numbered}
use Rattle.keeper_core.proofs.Numbered.{cells_total, exact_cells, at_table}
use Rattle.keeper_core.proofs.Rows.{entries_of_sorted, both}
use Rattle.keeper_core.proofs.Filled.{first_of, second_of}

-- ---- the cells are in order

below_append : {X : Type 0} (cell : Cell) (xs ys : List (Cell × X)) → T (below_all cell_cmp cell xs) → T (below_all cell_cmp cell ys) → T (below_all cell_cmp cell (xs ++ ys))
below_append cell [] ys h k = k
below_append cell (x ∷ xs) ys h k = both _ _ (first_of _ _ h) (below_append cell xs ys (second_of _ _ h) k)

same_table : (tab : ℕ) (r : Ordering) → T (is_lt r) → T (is_lt (ordering_then (nat_cmp tab tab) r))
same_table tab r h = rw (tied_itself nat_cmp_total tab) h

earlier_table : (tab later : ℕ) (r : Ordering) → tab < later → T (is_lt (ordering_then (nat_cmp tab later) r))
earlier_table tab later r lt = rw (lt-ltb tab later lt) tt

below_same : (tab : ℕ) (key : List ℕ) (es : List (List ℕ × Slot)) → T (below_all (slice_cmp nat_cmp) key es) → T (below_all cell_cmp (tab, key) (at_table tab es))
below_same tab key [] h = tt
below_same tab key (e ∷ es) h = both _ _ (same_table tab _ (first_of _ _ h)) (below_same tab key es (second_of _ _ h))

below_later : (tab later : ℕ) (key : List ℕ) (es : List (List ℕ × Slot)) → tab < later → T (below_all cell_cmp (tab, key) (at_table later es))
below_later tab later key [] lt = tt
below_later tab later key (e ∷ es) lt = both _ _ (earlier_table tab later _ lt) (below_later tab later key es lt)

below_numbered : (tab first : ℕ) (key : List ℕ) (tables : List TableSlots) → tab < first → T (below_all cell_cmp (tab, key) (numbered first tables))
below_numbered tab first key [] lt = tt
below_numbered tab first key (slots ∷ tables) lt = below_append (tab, key) (at_table first (entries slots)) (numbered (suc first) tables) (below_later tab first key (entries slots) lt) (below_numbered tab (suc first) key tables (omega arith))

sorted_table : (tab : ℕ) (es : List (List ℕ × Slot)) (rest : List (Cell × Slot)) → T (is_sorted (slice_cmp nat_cmp) es) → T (is_sorted cell_cmp rest) → ((key : List ℕ) → T (below_all cell_cmp (tab, key) rest)) → T (is_sorted cell_cmp (at_table tab es ++ rest))
sorted_table tab [] rest h k below = k
sorted_table tab (e ∷ es) rest h k below =
    both _ _ (below_append (tab, e.0) (at_table tab es) rest (below_same tab e.0 es (first_of _ _ h)) (below e.0)) (sorted_table tab es rest (second_of _ _ h) k below)

sorted_numbered : (first : ℕ) (tables : List TableSlots) → T (is_sorted cell_cmp (numbered first tables))
sorted_numbered first [] = tt
sorted_numbered first (slots ∷ tables) = sorted_table first (entries slots) (numbered (suc first) tables) (entries_sorted slots) (sorted_numbered (suc first) tables) (λ key. below_numbered first (suc first) key tables (omega arith))

below_full : (cell : Cell) (es : List (Cell × Slot)) → T (below_all cell_cmp cell es) → T (below_all cell_cmp cell (full_in es))
below_full cell [] h = tt
below_full cell ((c, None) ∷ es) h = below_full cell es (second_of _ _ h)
below_full cell ((c, Some val) ∷ es) h = both _ _ (first_of _ _ h) (below_full cell es (second_of _ _ h))

sorted_full : (es : List (Cell × Slot)) → T (is_sorted cell_cmp es) → T (is_sorted cell_cmp (full_in es))
sorted_full [] h = tt
sorted_full ((c, None) ∷ es) h = sorted_full es (second_of _ _ h)
sorted_full ((c, Some val) ∷ es) h = both _ _ (below_full c es (first_of _ _ h)) (sorted_full es (second_of _ _ h))

entries_filled : (tables : List TableSlots) → entries (filled (from_entries (numbered 0 tables))) ≡ full_in (numbered 0 tables)
entries_filled tables =
    entries_of_sorted cells_total exact_cells (full_in (entries (from_entries (numbered 0 tables)))) (sorted_full (entries (from_entries {R = cell_cmp} (numbered 0 tables))) (entries_sorted (from_entries {R = cell_cmp} (numbered 0 tables))))
    ∙ ap full_in (entries_of_sorted cells_total exact_cells (numbered 0 tables) (sorted_numbered 0 tables))

-- ---- the rows of one table

rows_at : ℕ → List (Cell × List ℕ) → List Row
rows_at tab es = map (λ e. record { key = e.0.1; val = e.1 }) (filter (λ e. e.0.0 == tab) es)

rows_here : (tab : ℕ) (es : List (List ℕ × Slot)) (rest : List (Cell × Slot)) → rows_at tab (full_in (at_table tab es ++ rest)) ≡ rows_in es ++ rows_at tab (full_in rest)
unfolding rows_at
rows_here tab [] rest = refl
rows_here tab ((key, None) ∷ es) rest = rows_here tab es rest
rows_here tab ((key, Some val) ∷ es) rest = rw (eq-eqb tab tab refl) (ap (λ (rows : List Row). record { key = key; val = val } ∷ rows) (rows_here tab es rest))

rows_elsewhere : (tab other : ℕ) (es : List (List ℕ × Slot)) (rest : List (Cell × Slot)) → other ≢ tab → rows_at tab (full_in (at_table other es ++ rest)) ≡ rows_at tab (full_in rest)
unfolding rows_at
rows_elsewhere tab other [] rest ne = refl
rows_elsewhere tab other ((key, None) ∷ es) rest ne = rows_elsewhere tab other es rest ne
rows_elsewhere tab other ((key, Some val) ∷ es) rest ne = rw (ne_eqb other tab ne) (rows_elsewhere tab other es rest ne)

rows_later : (tab first : ℕ) (tables : List TableSlots) → tab < first → rows_at tab (full_in (numbered first tables)) ≡ []
unfolding rows_at
rows_later tab first [] lt = refl
rows_later tab first (slots ∷ tables) lt = rows_elsewhere tab first (entries slots) (numbered (suc first) tables) (λ e. absurd (omega arith)) ∙ rows_later tab (suc first) tables (omega arith)

rows_numbered : (tab first place : ℕ) (tables : List TableSlots) (slots : TableSlots) → tab ≡ first + place → place < length tables → ((d : TableSlots) → slots ≡ get_or tables place d) → rows_at tab (full_in (numbered first tables)) ≡ rows_in (entries slots)
rows_numbered tab first place [] slots e lt is = absurd (omega arith)
rows_numbered tab first zero (here ∷ tables) slots e lt is =
    let number : tab ≡ first = omega arith in
    rw number (rows_here first (entries here) (numbered (suc first) tables) ∙ ap (λ (rows : List Row). rows_in (entries here) ++ rows) (rows_later first (suc first) tables (omega arith)) ∙ append-nil (rows_in (entries here)) ∙ ap (λ (s : TableSlots). rows_in (entries s)) (sym (is here)))
rows_numbered tab first (suc place) (here ∷ tables) slots e lt is =
    rows_elsewhere tab first (entries here) (numbered (suc first) tables) (λ same. absurd (omega arith)) ∙ rows_numbered tab (suc first) place tables slots (omega arith) (omega arith) is

rows_past : (tab first place : ℕ) (tables : List TableSlots) → tab ≡ first + place → length tables ≤ place → rows_at tab (full_in (numbered first tables)) ≡ []
unfolding rows_at
rows_past tab first place [] e le = refl
rows_past tab first zero (here ∷ tables) e le = absurd (omega arith)
rows_past tab first (suc place) (here ∷ tables) e le =
    rows_elsewhere tab first (entries here) (numbered (suc first) tables) (λ same. absurd (omega arith)) ∙ rows_past tab (suc first) place tables (omega arith) (omega arith)

as_rows_at : (tables : List TableSlots) (tab : ℕ) → rows_of tab (filled (from_entries (numbered 0 tables))) ≡ rows_at tab (full_in (numbered 0 tables))
unfolding rows_at
as_rows_at tables tab = ap (rows_at tab) (entries_filled tables)

module _ (tables items : List TableSlots) (view : Slots) (tab place : ℕ) (seen : from_entries (numbered 0 tables) ≡ view) (same : items ≡ tables) (number : place ≡ tab) where
  as_listed : rows_of tab (filled view) ≡ rows_at place (full_in (numbered 0 items))
  as_listed = ap (λ (m : Slots). rows_of tab (filled m)) (sym seen) ∙ as_rows_at tables tab ∙ ap (λ (ts : List TableSlots). rows_at tab (full_in (numbered 0 ts))) (sym same) ∙ ap (λ (n : ℕ). rows_at n (full_in (numbered 0 items))) (sym number)

  -- the rows of a table that is there
  pub rows_there : (slots : TableSlots) → place < length items → ((d : TableSlots) → slots ≡ get_or items place d) → rows_in (entries slots) ≡ rows_of tab (filled view)
  rows_there slots lt is = sym (as_listed ∙ rows_numbered place 0 place items slots (omega arith) lt is)

  -- there are none behind the last table
  pub no_rows_past : length items ≤ place → [] ≡ rows_of tab (filled view)
  no_rows_past le = sym (as_listed ∙ rows_past place 0 place items (omega arith) le)
