-- What the selection of a value shows.
use Rattle.std.proofs.Common.{◌≡◌, ◌&&◌, ℕ, ℤ, List, [], ◌∷◌, ◌++◌, map, filter, codes, Bool, true, false, cond, Some, Ok, refl, sym, ap, ap₂, subst, ◌∙◌}
use Rattle.std.specs.List.{flat_map}
use Rattle.std.specs.List.Sorted.{IsPermutation}
use Rattle.std.specs.Ordering.{is_eq}
use Rattle.sqlite.specs.declared.types.Value.TheVariants.{Null, Int, Blob}
use Rattle.sqlite.specs.Order.{Row, column, value_cmp}
use Rattle.sqlite.specs.Ops.{binary, is_true, from_truth}
use Rattle.sqlite.specs.Query.{IsAnswer, output, Output}
use Rattle.sqlite.specs.Program.{overlay}
use Rattle.std.proofs.lemmas.List.Sorted.{IsPermutation-map}
use Rattle.sqlite.specs.Command.TheVariants.{Select}
use Rattle.sqlite.specs.Compile.{table_defined_by}
use Rattle.sqlite_tied.specs.Compute.{everything}
use Rattle.sqlite.specs.Listing.{understood, reads_listing}
use Rattle.sqlite.specs.State.{State, Shown, ShowsRows, IsUnchanged}
use Rattle.sqlite.specs.Clock.{timed}
use Rattle.sqlite.specs.Effect.{Database}
use Rattle.sqlite.proofs.Callers.{IsPlain, command_of, reads_as}
use Rattle.std.proofs.Common.{◌≤◌, length, arith, pos}
use Rattle.std.proofs.lemmas.List.{length-map}
use Rattle.std.specs.FinMap.{get}
use Rattle.sqlite_keyed.proofs.ListLemmas.{filter-map, filter_same}
use Rattle.keeper_core.specs.Tables.{Cell}
use Rattle.keeper_sql.specs.CellRows.{CellRow, to_row, from_row, map_of, is_on, tables_in, IsKept, shown_value}
use Rattle.keeper_sql.proofs.CellLists.{tests_as, at_most_one, few_permutation, found_first, found_one}
use Rattle.keeper_sql.specs.Statements.{ShowsCell, cell, create_text, get_query, get_text, params_of, picks, the_schema}

create_is : table_defined_by create_text ≡ Ok cell
unfolding understood everything
create_is = refl

get_is : (command_of (understood the_schema get_text) ≡ Select (record { lets = []; body = get_query }) (codes "val" ∷ [])) × (reads_listing the_schema get_text ≡ false)
unfolding understood everything
get_is = (refl, refl)

pub get_plain : IsPlain (understood the_schema get_text)
unfolding understood everything
get_plain = (refl, refl)

pub truth_of : (b : Bool) → is_true (from_truth (Some b)) ≡ b
truth_of true = refl
truth_of false = refl

-- of a row of the table, the selection asks for its table and its key
pub picks_is : (tab t : ℤ) (key k v : List ℕ) (id : ℤ) → picks tab key (Int id ∷ Int t ∷ Blob k ∷ Blob v ∷ []) ≡ (is_eq (value_cmp (Int t) (Int tab)) && (is_eq (value_cmp (Blob k) (Blob key)) && true))
unfolding binary value_cmp
picks_is tab t key k v id = ap₂ (λ a b. a && (b && true)) (truth_of (is_eq (value_cmp (Int t) (Int tab)))) (truth_of (is_eq (value_cmp (Blob k) (Blob key))))

pub matched : (tab : ℤ) (key : List ℕ) (rows : List Row) → flat_map (λ r. cond (picks tab key r) ((params_of tab key ∷ r ∷ []) ∷ []) []) rows ≡ map (λ r. params_of tab key ∷ r ∷ []) (filter (picks tab key) rows)
matched tab key [] = refl
matched tab key (r ∷ rows) = go (matched tab key rows) (picks tab key r)
  where
    go : flat_map (λ r. cond (picks tab key r) ((params_of tab key ∷ r ∷ []) ∷ []) []) rows ≡ map (λ r. params_of tab key ∷ r ∷ []) (filter (picks tab key) rows) → (b : Bool)
        → cond b ((params_of tab key ∷ r ∷ []) ∷ []) [] ++ flat_map (λ r. cond (picks tab key r) ((params_of tab key ∷ r ∷ []) ∷ []) []) rows ≡ map (λ r. params_of tab key ∷ r ∷ []) (cond b (r ∷ filter (picks tab key) rows) (filter (picks tab key) rows))
    go more true = ap (λ es. (params_of tab key ∷ r ∷ []) ∷ es) more
    go more false = more

shown_each : (params : Row) (rs : List Row) → map (λ (o : Output). o.1) (map (output get_query) (map (λ r. params ∷ r ∷ []) rs)) ≡ map (λ r. column r 3 ∷ []) rs
shown_each params [] = refl
shown_each params (r ∷ rs) = ap (λ xs. (column r 3 ∷ []) ∷ xs) (shown_each params rs)

-- The answer has the value of each row of the cell, in some order.
pub shows : (old new : State) (tab : ℤ) (key : List ℕ) (rows : List Row) → old.now.schema ≡ the_schema → Shown get_text (params_of tab key) old new rows → ShowsCell tab key (old.now.trees 0) rows
shows old new tab key rows has shown =
    let read = reads_as get_text (params_of tab key) old new the_schema has (Select (record { lets = []; body = get_query }) (codes "val" ∷ [])) get_is.0 get_plain get_is.1 rows shown in
    let a : IsAnswer get_query (overlay old.now.trees []) (params_of tab key) rows = read.answer Null in
    let staged : a.staged ≡ map (λ r. params_of tab key ∷ r ∷ []) (filter (picks tab key) (old.now.trees 0)) = a.grouped ∙ matched tab key (old.now.trees 0) in
    let kept : a.kept ≡ map (output get_query) (map (λ r. params_of tab key ∷ r ∷ []) (filter (picks tab key) (old.now.trees 0))) = a.distinct ∙ ap (map (output get_query)) staged in
    let all = IsPermutation-map (λ (o : Output). o.1) a.kept a.ordered a.same in
    let shown_is : rows ≡ map (λ (o : Output). o.1) a.ordered = a.shown in
    subst (λ xs. IsPermutation xs rows) (ap (map (λ (o : Output). o.1)) kept ∙ shown_each (params_of tab key) (filter (picks tab key) (old.now.trees 0)))
    (subst (IsPermutation (map (λ (o : Output). o.1) a.kept)) (sym shown_is) all)

pub get_leaves : (old new : State) (tab : ℤ) (key : List ℕ) (rows : List Row) → old.now.schema ≡ the_schema → Shown get_text (params_of tab key) old new rows → IsUnchanged old new
unfolding Shown
get_leaves old new tab key rows has h =
    let full = timed (params_of tab key) h.0.formats h.1.now in
    let known = sym h.1.is ∙ ap (λ s. understood s get_text) has in
    let bare = subst IsPlain (sym known) get_plain in
    let it = subst (ShowsRows old new get_text h.0 full rows) bare.0 h.2 in
    it.3

values_of : (ys : List CellRow) → map (λ r. column r 3 ∷ []) (map to_row ys) ≡ map (λ (x : CellRow). Blob x.val ∷ []) ys
values_of [] = refl
values_of (y ∷ ys) = ap (λ rs. (Blob y.val ∷ []) ∷ rs) (values_of ys)

pub picked : (tab : ℕ) (key : List ℕ) (xs : List CellRow) → filter (picks (pos tab) key) (map to_row xs) ≡ map to_row (filter (is_on (tab, key)) xs)
picked tab key xs = filter-map (picks (pos tab) key) to_row xs ∙ ap (map to_row) (filter_same _ _ (λ x. picks_is (pos tab) (pos x.tab) key x.key x.val x.id ∙ tests_as tab key x) xs)

one_or_none : (cell : Cell) (xs ys : List CellRow) → length ys ≤ 1 → filter (is_on cell) xs ≡ ys → map (λ (x : CellRow). Blob x.val ∷ []) ys ≡ shown_value (get (map_of xs) cell)
one_or_none cell xs [] few are = ap shown_value (sym (found_first cell xs are))
one_or_none cell xs (x ∷ []) few are = ap shown_value (sym (found_one cell xs x are))
one_or_none cell xs (x ∷ y ∷ ys) few are = absurd (omega arith)

-- what the selection of a value shows is what the map has there
pub shows_value : (old new : State) (tab : ℕ) (key : List ℕ) (rows : List Row) → IsKept old.now → Shown get_text (params_of (pos tab) key) old new rows
    → rows ≡ shown_value (get (tables_in old.now) (tab, key))
shows_value old new tab key rows kept shown =
    let xs = map from_row (old.now.trees 0) in
    let cell : Cell = (tab, key) in
    let few = at_most_one cell xs kept.rows.apart in
    let ys = filter (is_on cell) xs in
    let values : map (λ r. column r 3 ∷ []) (filter (picks (pos tab) key) (old.now.trees 0)) ≡ map (λ (x : CellRow). Blob x.val ∷ []) ys =
    ap (λ rs. map (λ r. column r 3 ∷ []) (filter (picks (pos tab) key) rs)) kept.rows.typed ∙ ap (map (λ r. column r 3 ∷ [])) (picked tab key xs) ∙ values_of ys in
    let same : IsPermutation (map (λ (x : CellRow). Blob x.val ∷ []) ys) rows = subst (λ vs. IsPermutation vs rows) values (shows old new (pos tab) key rows kept.schema shown) in
    few_permutation _ rows (rw length-map few) same ∙ one_or_none cell xs ys few refl
