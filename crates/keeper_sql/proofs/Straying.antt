-- What the selection of rows with a number out of range shows.
use Rattle.std.proofs.Common.{◌≡◌, List, [], ◌∷◌, ◌++◌, map, filter, codes, Bool, true, false, cond, refl, sym, ap, subst, ◌∙◌, pos}
use Rattle.std.specs.List.{flat_map}
use Rattle.std.specs.List.Sorted.{IsPermutation}
use Rattle.std.proofs.lemmas.List.Sorted.{IsPermutation-map, IsPermutation-sym}
use Rattle.sqlite.specs.declared.types.Value.TheVariants.{Null}
use Rattle.sqlite.specs.Order.{Row, column}
use Rattle.sqlite.specs.Query.{IsAnswer, output, Output}
use Rattle.sqlite.specs.Program.{overlay}
use Rattle.sqlite.specs.Command.TheVariants.{Select}
use Rattle.sqlite_tied.specs.Compute.{everything}
use Rattle.sqlite.specs.Listing.{understood, reads_listing}
use Rattle.sqlite.specs.State.{State, Shown, ShowsRows, IsUnchanged}
use Rattle.sqlite.specs.Clock.{timed}
use Rattle.sqlite.proofs.Callers.{IsPlain, command_of, reads_as}
use Rattle.keeper_sql.specs.Statements.{stray_text, stray_query, is_stray, the_schema}
use Rattle.keeper_sql.proofs.CellLists.{few_permutation}
use Rattle.std.proofs.Common.{◌≤◌, length, arith}

stray_is : (command_of (understood the_schema stray_text) ≡ Select (record { lets = []; body = stray_query }) (codes "tab" ∷ [])) × (reads_listing the_schema stray_text ≡ false)
unfolding understood everything
stray_is = (refl, refl)

pub stray_plain : IsPlain (understood the_schema stray_text)
unfolding understood everything
stray_plain = (refl, refl)

matched : (rows : List Row) → flat_map (λ r. cond (is_stray r) (([] ∷ r ∷ []) ∷ []) []) rows ≡ map (λ r. [] ∷ r ∷ []) (filter is_stray rows)
matched [] = refl
matched (r ∷ rows) = go (matched rows) (is_stray r)
  where
    go : flat_map (λ r. cond (is_stray r) (([] ∷ r ∷ []) ∷ []) []) rows ≡ map (λ r. [] ∷ r ∷ []) (filter is_stray rows) → (b : Bool)
        → cond b (([] ∷ r ∷ []) ∷ []) [] ++ flat_map (λ r. cond (is_stray r) (([] ∷ r ∷ []) ∷ []) []) rows ≡ map (λ r. [] ∷ r ∷ []) (cond b (r ∷ filter is_stray rows) (filter is_stray rows))
    go more true = ap (λ es. ([] ∷ r ∷ []) ∷ es) more
    go more false = more

none_mapped : {A B : Type 0} (f : A → B) (xs : List A) → map f xs ≡ [] → xs ≡ []
none_mapped f [] none = refl
none_mapped f (x ∷ xs) none = absurd cc

no_staged : {A : Type 0} (xs ys : List A) → ys ≡ [] → IsPermutation xs ys → xs ≡ []
no_staged {A} xs ys none same = few_permutation [] xs (omega arith) (subst (λ (zs : List A). IsPermutation zs xs) none (IsPermutation-sym xs ys same))

-- where it shows none, the table has none
pub none_strays : (old new : State) (rows : List Row) → old.now.schema ≡ the_schema → Shown stray_text [] old new rows → rows ≡ [] → filter is_stray (old.now.trees 0) ≡ []
none_strays old new rows has shown none =
    let read = reads_as stray_text [] old new the_schema has (Select (record { lets = []; body = stray_query }) (codes "tab" ∷ [])) stray_is.0 stray_plain stray_is.1 rows shown in
    let a : IsAnswer stray_query (overlay old.now.trees []) [] rows = read.answer Null in
    let staged : a.staged ≡ map (λ r. [] ∷ r ∷ []) (filter is_stray (old.now.trees 0)) = a.grouped ∙ matched (old.now.trees 0) in
    let kept : a.kept ≡ map (output stray_query) (map (λ r. [] ∷ r ∷ []) (filter is_stray (old.now.trees 0))) = a.distinct ∙ ap (map (output stray_query)) staged in
    let ordered : a.ordered ≡ [] = none_mapped (λ (o : Output). o.1) a.ordered (sym a.shown ∙ none) in
    let empty : a.kept ≡ [] = no_staged a.kept a.ordered ordered a.same in
    none_mapped (λ r. [] ∷ r ∷ []) (filter is_stray (old.now.trees 0)) (none_mapped (output stray_query) (map (λ r. [] ∷ r ∷ []) (filter is_stray (old.now.trees 0))) (sym kept ∙ empty))

pub stray_leaves : (old new : State) (rows : List Row) → old.now.schema ≡ the_schema → Shown stray_text [] old new rows → IsUnchanged old new
unfolding Shown
stray_leaves old new rows has h =
    let full = timed [] h.0.formats h.1.now in
    let known = sym h.1.is ∙ ap (λ s. understood s stray_text) has in
    let bare = subst IsPlain (sym known) stray_plain in
    let it = subst (ShowsRows old new stray_text h.0 full rows) bare.0 h.2 in
    it.3
