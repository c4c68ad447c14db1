-- What the deletion of a cell does.
use Rattle.std.proofs.Common.{◌≡◌, ◌⊎◌, ℕ, ℤ, pos, negsuc, List, [], ◌∷◌, false, None, Ok, Err, Result, inl, inr, refl, ap, subst, ◌∙◌}
use Rattle.std.proofs.Common.{OnOk}
use Rattle.sqlite.specs.declared.error.Error.{Error}
use Rattle.sqlite.specs.declared.types.Value.TheVariants.{Int}
use Rattle.sqlite.specs.Term.{lit, col}
use Rattle.sqlite.specs.Query.{Query, inner, end}
use Rattle.sqlite.specs.Command.TheVariants.{Delete}
use Rattle.sqlite.specs.Edit.{edit_of}
use Rattle.sqlite.specs.Rowids.TheVariants.{Given}
use Rattle.sqlite.specs.Does.{Tally, Does}
use Rattle.sqlite.specs.Rows.{Written}
use Rattle.sqlite_rules.specs.Calls.{ids_of}
use Rattle.sqlite.specs.Tree.{Trees}
use Rattle.sqlite_tied.specs.Compute.{everything}
use Rattle.sqlite.specs.Listing.{understood}
use Rattle.sqlite.specs.Effect.{Database}
use Rattle.sqlite.specs.State.{State, mode_of, Executes}
use Rattle.sqlite.proofs.Callers.{IsPlain, command_of, statement_of, runs_as, one_step}
use Rattle.std.proofs.Common.{map, filter, sym, subst₂, IsPermutation}
use Rattle.std.specs.FinMap.{remove}
use Rattle.std.proofs.lemmas.List.Sorted.{IsPermutation-map}
use Rattle.sqlite.specs.Order.{Row, column}
use Rattle.sqlite.specs.declared.types.Value.TheVariants.{Null}
use Rattle.sqlite.specs.Tree.{rowid}
use Rattle.sqlite.specs.Edit.{id_in, without_all}
use Rattle.sqlite.specs.Query.{IsAnswer, output, Output}
use Rattle.sqlite.specs.Program.{overlay}
use Rattle.sqlite_keyed.specs.Lists.{delete_where}
use Rattle.keeper_core.specs.Tables.{Cell}
use Rattle.keeper_sql.specs.CellRows.{CellRow, to_row, from_row, map_of, is_on, tables_in, IsKept, AreRowsOf}
use Rattle.keeper_sql.proofs.CellLists.{read_back, takes_out, map_without}
use Rattle.keeper_sql.proofs.Selecting.{matched, picked}
use Rattle.keeper_sql.specs.Statements.{cell as cell_table, del_text, params_of, picks, the_schema, wanted}

abbrev del_query : Query
del_query = record {
  from = inner 0 end;
  filter = wanted;
  group = None;
  project = col 1 0 ∷ [];
  distinct = false;
  collations = [];
  order = [];
  limit = lit (Int (negsuc 0));
  offset = lit (Int (pos 0));
}

del_is : command_of (understood the_schema del_text) ≡ Delete 0 (record { lets = []; body = del_query })
unfolding understood everything
del_is = refl

del_plain : IsPlain (understood the_schema del_text)
unfolding understood everything
del_plain = (refl, refl)

pub went : {B E R : Type 0} {b : B} {Stops : E → Type 0} → ((stop : E) × Stops stop × (Ok b ≡ Err stop)) ⊎ R → R
went (inl stopped) = absurd (let e = stopped.2 in cc)
went (inr on) = on

pub same_value : {B E : Type 0} {a b : B} → ◌≡◌ {A = Result B E} (Ok a) (Ok b) → a ≡ b
same_value e = cc

ids_from : (rows : List Row) (shown : List Row) → map (λ r. column r 0 ∷ []) rows ≡ shown → map (λ r. id_in (rowid r)) rows ≡ ids_of shown
ids_from [] shown is = ap ids_of is
ids_from (r ∷ rows) shown is = ap (λ ids. id_in (rowid r) ∷ ids) (ids_from rows _ refl) ∙ ap ids_of is

shown_each : (params : Row) (rs : List Row) → map (λ (o : Output). o.1) (map (output del_query) (map (λ r. params ∷ r ∷ []) rs)) ≡ map (λ r. column r 0 ∷ []) rs
shown_each params [] = refl
shown_each params (r ∷ rs) = ap (λ xs. (column r 0 ∷ []) ∷ xs) (shown_each params rs)

ids_of_rows : (ys : List CellRow) → ids_of (map (λ r. column r 0 ∷ []) (map to_row ys)) ≡ map (λ (x : CellRow). x.id) ys
ids_of_rows [] = refl
ids_of_rows (y ∷ ys) = ap (λ ids. y.id ∷ ids) (ids_of_rows ys)

-- the rowids that the deletion finds
finds : (db : Trees) (tab : ℕ) (key : List ℕ) (xs : List CellRow) (rows : List Row) → db 0 ≡ map to_row xs → IsAnswer del_query (overlay db []) (params_of (pos tab) key) rows
    → IsPermutation (map (λ (x : CellRow). x.id) (filter (is_on (tab, key)) xs)) (ids_of rows)
finds db tab key xs rows typed a =
    let tab_ = pos tab in
    let staged : a.staged ≡ map (λ r. params_of tab_ key ∷ r ∷ []) (filter (picks tab_ key) (db 0)) = a.grouped ∙ matched tab_ key (db 0) in
    let kept : a.kept ≡ map (output del_query) (map (λ r. params_of tab_ key ∷ r ∷ []) (filter (picks tab_ key) (db 0))) = a.distinct ∙ ap (map (output del_query)) staged in
    let all = IsPermutation-map (λ (o : Output). o.1) a.kept a.ordered a.same in
    let shown_is : rows ≡ map (λ (o : Output). o.1) a.ordered = a.shown in
    let first : map (λ (o : Output). o.1) a.kept ≡ map (λ r. column r 0 ∷ []) (map to_row (filter (is_on (tab, key)) xs)) =
    ap (map (λ (o : Output). o.1)) kept ∙ shown_each (params_of tab_ key) (filter (picks tab_ key) (db 0)) ∙ ap (λ rs. map (λ r. column r 0 ∷ []) (filter (picks tab_ key) rs)) typed ∙ ap (map (λ r. column r 0 ∷ [])) (picked tab key xs) in
    let both : IsPermutation (map (λ r. column r 0 ∷ []) (map to_row (filter (is_on (tab, key)) xs))) rows =
    subst (λ vs. IsPermutation vs rows) first (subst (IsPermutation (map (λ (o : Output). o.1) a.kept)) (sym shown_is) all) in
    subst (λ ids. IsPermutation ids (ids_of rows)) (ids_of_rows (filter (is_on (tab, key)) xs)) (IsPermutation-map (λ r. id_in (rowid r)) _ rows both)

-- The rows of the cell are gone, and so is its value.
pub removes : (old new : State) (tab : ℕ) (key : List ℕ) (count : ℕ) → IsKept old.now → Executes del_text (params_of (pos tab) key) old new (Ok count)
    → IsKept new.now × (tables_in new.now ≡ remove (tables_in old.now) (tab, key))
removes old new tab key count fine h =
    let params = params_of (pos tab) key in
    let has = fine.schema in
    let db = old.now.trees in
    let xs = map from_row (db 0) in
    let cell : Cell = (tab, key) in
    let command = Delete 0 (record { lets = []; body = del_query }) in
    let w = runs_as del_text params old new the_schema has command del_is del_plain count h in
    let text = statement_of del_text (understood the_schema del_text) in
    let done = went (subst (λ s. Does old.step_limit (mode_of old) params (record old.now { schema = s }) text None command (Ok (w.tally, new.now))) has w.changed) in
    let now = ap (λ (p : Tally × Database). p.1) (same_value (went (went done.2).2).2) in
    let given = went done.1 in
    let written = went given.2 in
    let trees : done.0.trees ≡ written.0 = ap (λ (it : Written). it.trees) (same_value written.2) in
    let rows = (one_step the_schema _ db written.0 (edit_of db cell_table (ids_of given.0) Given 0 []) refl written.1).rows in
    let answer : IsAnswer del_query (overlay db []) params given.0 = given.1.answer Null in
    let left : new.now.trees 0 ≡ without_all (db 0) (ids_of given.0) = ap (λ (d : Database). d.trees 0) now ∙ ap (λ (t : Trees). t 0) trees ∙ rows in
    let kept_rows = takes_out cell xs (db 0) (ids_of given.0) fine.rows (finds db tab key xs given.0 fine.rows.typed answer) in
    let again : map from_row (new.now.trees 0) ≡ delete_where (is_on cell) xs = read_back (delete_where (is_on cell) xs) (new.now.trees 0) (left ∙ kept_rows.typed) in (
      record {
        schema = ap (λ (d : Database). d.schema) now;
        rows = subst₂ AreRowsOf (sym again) (sym left) kept_rows;
      },
      ap map_of again ∙ map_without cell xs,
    )
