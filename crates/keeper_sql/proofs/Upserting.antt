-- What the upsert of a cell does.
use Rattle.std.proofs.Common.{◌++◌, map, filter, cond, length, Option, Ok, subst, int_eq, IsPermutation}
use Rattle.std.specs.List.{AllByRecursion, flat_map, list_all}
use Rattle.std.specs.FinMap.{insert}
use Rattle.std.proofs.lemmas.Bool.{cases_Bool, and_parts, not-true}
use Rattle.std.proofs.lemmas.List.Sorted.{IsPermutation-refl}
use Rattle.sqlite.specs.declared.types.Value.{Value}
use Rattle.sqlite.specs.Kind.TheVariants.{Integer}
use Rattle.sqlite.specs.Ops.{unary}
use Rattle.sqlite.specs.Cast.{cast, cast_row}
use Rattle.sqlite.specs.Tree.{Trees, put_row}
use Rattle.sqlite.specs.Edit.{edit_of, edited, left_by, is_taken, are_fresh, without_all}
use Rattle.sqlite.specs.Rowids.TheVariants.{Given, Chosen}
use Rattle.sqlite.specs.Rows.{Written, Task, Puts, Updates, shown}
use Rattle.sqlite.specs.Query.{IsAnswer, Output, output}
use Rattle.sqlite.specs.Program.{overlay}
use Rattle.sqlite.specs.Term.{holds}
use Rattle.sqlite.proofs.Callers.{one_step, one_permutation, statement_of, runs_as}
use Rattle.std.proofs.Common.{Err, Result, subst₂}
use Rattle.std.specs.FinMap.{get}
use Rattle.sqlite.specs.declared.error.Error.{Error}
use Rattle.sqlite.specs.Edit.{next_rowid, with_rowid}
use Rattle.sqlite.specs.Rows.{count_of, Outcome, Clears, Meets, Judged, passes_over, Upserts, Tries, TriesEach, nothing}
use Rattle.sqlite_rules.specs.Keys.{AreConflicts}
use Rattle.sqlite.specs.Tree.{rowid}
use Rattle.std.proofs.Common.{inl, inr}
use Rattle.sqlite.specs.Does.{Tally, Does}
use Rattle.sqlite.specs.Effect.{Database}
use Rattle.sqlite.specs.State.{State, mode_of, Executes}
use Rattle.sqlite_rules.specs.declared.error.Refusal.{Refusal}
use Rattle.sqlite_rules.specs.declared.error.Refusal.TheVariants.{Violates, Mismatch, NoRowid, BadReference, TooDeep}
use Rattle.keeper_sql.specs.CellRows.{tables_in, IsKept}
use Rattle.keeper_sql.proofs.CellLists.{read_back, has_row, row_has, none_if}
use Rattle.sqlite_schema.specs.declared.schema.Keys.{Keys}
use Rattle.sqlite_rules.specs.Lists.{Has}
use Rattle.sqlite_rules.specs.Calls.{ids_of}
use Rattle.sqlite_keyed.specs.Keyed.{insert_by}
use Rattle.sqlite_keyed.specs.Lists.{delete_where}
use Rattle.sqlite_keyed.proofs.ListLemmas.{filter-map, filter_same}
use Rattle.keeper_core.specs.Tables.{Cell, Tables}
use Rattle.keeper_sql.specs.CellRows.{cell_in, from_row, map_of, AreRowsOf}
use Rattle.keeper_sql.proofs.CellLists.{put_free, row_of_id, alone_on, none_kept, takes_out, map_without, on_is, all_off}
use Rattle.keeper_sql.proofs.Applying.{put_again}
use Rattle.keeper_sql.proofs.Deleting.{went, same_value}
use Rattle.sqlite.specs.Query.{Query, inner, end}
use Rattle.sqlite.specs.Collation.TheVariants.{Binary}
use Rattle.sqlite_sql.specs.declared.ops.BinaryOp.TheVariants.{Compare}
use Rattle.sqlite_sql.specs.declared.ops.CompareOp.TheVariants.{Eq}
use Rattle.sqlite_schema.specs.declared.command.Upsert.{Upsert}
use Rattle.std.specs.Ordering.{is_eq, nat_cmp}
use Rattle.sqlite.specs.Order.{Row, value_cmp}
use Rattle.sqlite_value.proofs.OrderLemmas.{value_cmp-Int}
use Rattle.sqlite_value.specs.Keys.{first_key}
use Rattle.sqlite.specs.Ops.{binary}
use Rattle.sqlite_rules.specs.Keys.{conflicts}
use Rattle.keeper_sql.specs.CellRows.{CellRow, to_row, is_on}
use Rattle.keeper_sql.proofs.CellLists.{same_order, tests_as}
use Rattle.keeper_sql.proofs.Selecting.{truth_of}
use Rattle.std.proofs.Common.{Bool, true, ◌&&◌, ◌||◌, sym, ap, ap₂, ◌∙◌, false, ◌≡◌, ℕ, ℤ, pos, negsuc, List, [], ◌∷◌, refl, None, Some}
use Rattle.sqlite.specs.declared.types.Value.TheVariants.{Null, Int, Blob}
use Rattle.sqlite.specs.Term.{Term, lit, col, op2}
use Rattle.sqlite.specs.Source.TheVariants.{Values}
use Rattle.sqlite.specs.Command.TheVariants.{InsertOr}
use Rattle.sqlite_schema.specs.declared.command.Conflict.TheVariants.{Abort}
use Rattle.sqlite_tied.specs.Compute.{everything}
use Rattle.sqlite.specs.Listing.{understood}
use Rattle.sqlite.proofs.Callers.{IsPlain, command_of}
use Rattle.keeper_sql.specs.Statements.{cell as cell_table, put_text, the_schema}

abbrev terms : List Term
terms = lit Null ∷ col 0 0 ∷ col 0 1 ∷ col 0 2 ∷ []

abbrev update_query : Query
update_query = record {
  from = inner 0 end;
  filter = op2 (Compare Eq Binary) (col 1 0) (col 0 3) ∷ [];
  group = None;
  project = col 1 0 ∷ col 1 0 ∷ col 1 1 ∷ col 1 2 ∷ col 0 7 ∷ [];
  distinct = false;
  collations = [];
  order = [];
  limit = lit (Int (negsuc 0));
  offset = lit (Int (pos 0));
}

abbrev clauses : List Upsert
clauses = record { target = Some (1 ∷ 2 ∷ []); update = Some (record { lets = []; body = update_query }) } ∷ []

put_is : command_of (understood the_schema put_text) ≡ InsertOr 0 Abort (Values terms 4) clauses
unfolding understood everything
put_is = refl

put_plain : IsPlain (understood the_schema put_text)
unfolding understood everything
put_plain = (refl, refl)

-- ---- the rows that conflict

pos_same : (a b : ℕ) → is_eq (value_cmp (Int (pos a)) (Int (pos b))) ≡ is_eq (nat_cmp a b)
pos_same a b = ap is_eq (value_cmp-Int (pos a) (pos b) ∙ same_order a b)

abbrev new_row : ℤ → ℕ → List ℕ → List ℕ → Row
new_row id tab key val = Int id ∷ Int (pos tab) ∷ Blob key ∷ Blob val ∷ []

or_false : (b : Bool) → (b || false) ≡ b
or_false true = refl
or_false false = refl

-- a row meets the clause where it is on the cell
meets_on : (id : ℤ) (tab : ℕ) (key val : List ℕ) (x : CellRow) → conflicts (Some (1 ∷ 2 ∷ [])) the_schema.indexes cell_table (new_row id tab key val) (to_row x) ≡ is_on (tab, key) x
unfolding binary value_cmp first_key
meets_on id tab key val x =
    or_false _
    ∙ ap₂ (λ a b. a && (b && true)) (truth_of (is_eq (value_cmp (Int (pos x.tab)) (Int (pos tab))))) (truth_of (is_eq (value_cmp (Blob x.key) (Blob key))))
    ∙ tests_as tab key x

-- ---- what is written

either : (b : Bool) (x : Value) → cond b x x ≡ x
either true x = refl
either false x = refl

cast_null : cast Integer Null ≡ Null
unfolding unary
cast_null = either _ Null

cast_int : (n : ℤ) → cast Integer (Int n) ≡ Int n
unfolding unary
cast_int n = either _ (Int n)

abbrev the_task : Option ℕ → Keys → Row → Task
the_task limit keys params = record { limit = limit; keys = keys; schema = the_schema; table = cell_table; params = params }

-- the trees stand for the map with the cell's new value
abbrev Sets : Trees → Trees → ℕ → List ℕ → List ℕ → Type 0
Sets db next tab key val = (ys : List CellRow) × AreRowsOf ys (next 0) × (map_of ys ≡ insert (map_of (map from_row (db 0))) (tab, key) val)

-- the parameters of the update
abbrev given_to : ℤ → ℤ → ℕ → List ℕ → List ℕ → Row
given_to i id tab key val = (Int (pos tab) ∷ Blob key ∷ Blob val ∷ []) ++ Int i ∷ shown cell_table (Int id ∷ Int (pos tab) ∷ Blob key ∷ Blob val ∷ [])

and_true : (b : Bool) → (b && true) ≡ b
and_true true = refl
and_true false = refl

by_id : (i id : ℤ) (tab : ℕ) (key val : List ℕ) (y : CellRow) → list_all (holds (given_to i id tab key val ∷ to_row y ∷ [])) update_query.filter ≡ int_eq y.id i
unfolding binary value_cmp
by_id i id tab key val y = ap (λ b. b && true) (truth_of (is_eq (value_cmp (Int y.id) (Int i)))) ∙ and_true _ ∙ ap is_eq (value_cmp-Int y.id i)

matched_by : (given : Row) (rows : List Row) → flat_map (λ r. cond (list_all (holds (given ∷ r ∷ [])) update_query.filter) ((given ∷ r ∷ []) ∷ []) []) rows
    ≡ map (λ r. given ∷ r ∷ []) (filter (λ r. list_all (holds (given ∷ r ∷ [])) update_query.filter) rows)
matched_by given [] = refl
matched_by given (r ∷ rows) = go (matched_by given rows) (list_all (holds (given ∷ r ∷ [])) update_query.filter)
  where
    go : flat_map (λ q. cond (list_all (holds (given ∷ q ∷ [])) update_query.filter) ((given ∷ q ∷ []) ∷ []) []) rows ≡ map (λ q. given ∷ q ∷ []) (filter (λ q. list_all (holds (given ∷ q ∷ [])) update_query.filter) rows) → (b : Bool)
        → cond b ((given ∷ r ∷ []) ∷ []) [] ++ flat_map (λ q. cond (list_all (holds (given ∷ q ∷ [])) update_query.filter) ((given ∷ q ∷ []) ∷ []) []) rows
        ≡ map (λ q. given ∷ q ∷ []) (cond b (r ∷ filter (λ q. list_all (holds (given ∷ q ∷ [])) update_query.filter) rows) (filter (λ q. list_all (holds (given ∷ q ∷ [])) update_query.filter) rows))
    go more true = ap (λ es. (given ∷ r ∷ []) ∷ es) more
    go more false = more

module _ (limit : Option ℕ) (keys : Keys) (db : Trees) (tab : ℕ) (key val : List ℕ) (fine : AreRowsOf (map from_row (db 0)) (db 0)) where
  abbrev xs : List CellRow
  xs = map from_row (db 0)

  abbrev cell : Cell
  cell = (tab, key)

  abbrev params : Row
  params = Int (pos tab) ∷ Blob key ∷ Blob val ∷ []

  abbrev task : Task
  task = the_task limit keys params

  -- a row that meets no other is put in
  puts : (id : ℤ) (out : Written) → filter (is_on cell) xs ≡ [] → Puts task (Int id ∷ Int (pos tab) ∷ Blob key ∷ Blob val ∷ []) db (Ok out) → Sets db out.trees tab key val
  puts id out none h =
      let new : CellRow = record { id = id; tab = tab; key = key; val = val } in
      let p = went h in
      let trees : out.trees ≡ p.0 = ap (λ (it : Written). it.trees) (same_value p.2) in
      let done = one_step the_schema keys db p.0 (edit_of db cell_table [] Given 0 (to_row new ∷ [])) refl p.1 in
      let row_is : cast_row cell_table (to_row new) ≡ to_row new = rw (cast_int, cast_int) in
      let edit : edited db (edit_of db cell_table [] Given 0 (to_row new ∷ [])) ≡ put_row (to_row new) (db 0) = ap (λ r. put_row r (db 0)) row_is in
      let free : is_taken (db 0) (to_row new) ≡ false = ap (is_taken (db 0)) (sym row_is) ∙ not-true _ (and_parts _ _ done.fresh).0 in
      let no_one : AllByRecursion (λ y. is_on cell y ≡ false) xs = all_off cell xs none in
      let it = put_free xs (db 0) new fine free no_one in
      let left : out.trees 0 ≡ put_row (to_row new) (db 0) = ap (λ (t : Trees). t 0) trees ∙ done.rows ∙ edit in
      (insert_by (λ (x : CellRow). x.id) xs new, subst (AreRowsOf _) (sym left) it.0, it.1)

  -- the row that is there is given the value
  updates : (x : CellRow) (id : ℤ) (out : Written) → Has xs x → is_on cell x ≡ true
      → Updates task (record { lets = []; body = update_query }) (params ++ Int x.id ∷ shown cell_table (Int id ∷ Int (pos tab) ∷ Blob key ∷ Blob val ∷ [])) db (Ok out) → Sets db out.trees tab key val
  updates x id out there on h =
      let given = params ++ Int x.id ∷ shown cell_table (Int id ∷ Int (pos tab) ∷ Blob key ∷ Blob val ∷ []) in
      let new : CellRow = record x { val = val } in
      let u = went h in
      let a : IsAnswer update_query (overlay db []) given u.0 = u.1.answer Null in
      let asks : Row → Bool = λ r. list_all (holds (given ∷ r ∷ [])) update_query.filter in
      let found : filter asks (db 0) ≡ to_row x ∷ [] =
      ap (filter asks) fine.typed ∙ filter-map asks to_row xs ∙ ap (map to_row) (filter_same _ _ (by_id x.id id tab key val) xs) ∙ ap (map to_row) (row_of_id x xs fine.keyed there) in
      let staged : a.staged ≡ (given ∷ to_row x ∷ []) ∷ [] = a.grouped ∙ matched_by given (db 0) ∙ ap (map (λ r. given ∷ r ∷ [])) found in
      let o : Output = ([], Int x.id ∷ Int x.id ∷ Int (pos x.tab) ∷ Blob x.key ∷ Blob val ∷ []) in
      let kept : a.kept ≡ o ∷ [] = a.distinct ∙ ap (map (output update_query)) staged in
      let ordered = one_permutation o a.ordered (subst (λ k. IsPermutation k a.ordered) kept a.same) in
      let shown_is : u.0 ≡ map (λ (p : Output). p.1) a.ordered = a.shown in
      let rows_are : u.0 ≡ o.1 ∷ [] = shown_is ∙ ap (map (λ (p : Output). p.1)) ordered in
      let w = went u.2 in
      let trees : out.trees ≡ w.0 = ap (λ (it : Written). it.trees) (same_value w.2) in
      let done = one_step the_schema keys db w.0 (edit_of db cell_table (ids_of u.0) Given 1 u.0) refl w.1 in
      let row_is : cast_row cell_table (to_row new) ≡ to_row new = rw (cast_int, cast_int) in
      let zs = delete_where (is_on cell) xs in
      let one : filter (is_on cell) xs ≡ x ∷ [] = alone_on x xs cell fine.apart there on in
      let out_of : AreRowsOf zs (without_all (db 0) (x.id ∷ [])) = takes_out cell xs (db 0) (x.id ∷ []) fine (subst (λ ys. IsPermutation ys (x.id ∷ [])) (sym (ap (map (λ (y : CellRow). y.id)) one)) (IsPermutation-refl (x.id ∷ []))) in
      let fresh : are_fresh (without_all (db 0) (x.id ∷ [])) (to_row new ∷ []) ≡ true =
      ap (λ r. are_fresh (without_all (db 0) (x.id ∷ [])) (r ∷ [])) (sym row_is)
      ∙ sym (ap (λ us. are_fresh (left_by db (edit_of db cell_table (ids_of us) Given 1 us)) (edit_of db cell_table (ids_of us) Given 1 us).news) rows_are) ∙ done.fresh in
      let free : is_taken (without_all (db 0) (x.id ∷ [])) (to_row new) ≡ false = not-true _ (and_parts _ _ fresh).0 in
      let same : cell_in new ≡ cell = on_is cell x on in
      let no_one : AllByRecursion (λ y. is_on (cell_in new) y ≡ false) zs = subst (λ (k : Cell). AllByRecursion (λ y. is_on k y ≡ false) zs) (sym same) (none_kept cell xs) in
      let it = put_free zs (without_all (db 0) (x.id ∷ [])) new out_of free no_one in
      let edit : edited db (edit_of db cell_table (ids_of u.0) Given 1 u.0) ≡ put_row (to_row new) (without_all (db 0) (x.id ∷ [])) =
      ap (λ us. edited db (edit_of db cell_table (ids_of us) Given 1 us)) rows_are ∙ ap (λ r. put_row r (without_all (db 0) (x.id ∷ []))) row_is in
      let left : out.trees 0 ≡ put_row (to_row new) (without_all (db 0) (x.id ∷ [])) = ap (λ (t : Trees). t 0) trees ∙ done.rows ∙ edit in (
        insert_by (λ (y : CellRow). y.id) zs new,
        subst (AreRowsOf _) (sym left) it.0,
        it.1 ∙ ap (λ (k : Cell). insert (map_of zs) k val) same ∙ ap (λ (t : Tables). insert t cell val) (map_without cell xs) ∙ put_again cell val (map_of xs),
      )

-- ---- the whole statement

no_refusal : {A : Type 0} {a : A} {e : Option Error} → ◌≡◌ {A = Result A (Option Error)} (Ok a) (Err e) → ⊥
no_refusal h = cc

module _ (limit : Option ℕ) (keys : Keys) (db : Trees) (tab : ℕ) (key val : List ℕ) (fine : AreRowsOf (map from_row (db 0)) (db 0)) where
  abbrev a_task : Task
  a_task = the_task limit keys (Int (pos tab) ∷ Blob key ∷ Blob val ∷ [])

  abbrev fresh_row : ℤ → Row
  fresh_row id = Int id ∷ Int (pos tab) ∷ Blob key ∷ Blob val ∷ []

  cleared : (new : Row) (out : Outcome Written) (found : List Row) → Clears a_task Abort new db found out → Puts a_task new db out
  cleared new out [] h = h
  cleared new out (x ∷ more) h = h

  met : (id : ℤ) (out : Written) → Upserts a_task Abort (fresh_row id) db clauses (Ok out) → Sets db out.trees tab key val
  met id out h = go h.0 h.1 h.2
    where
      test_is : (x : CellRow) → conflicts (Some (1 ∷ 2 ∷ [])) the_schema.indexes cell_table (fresh_row id) (to_row x) ≡ is_on (tab, key) x
      test_is x = meets_on id tab key val x

      go : (found : List Row) → AreConflicts (Some (1 ∷ 2 ∷ [])) the_schema.indexes cell_table (db 0) (fresh_row id) found
          → Meets a_task (Upserts a_task Abort (fresh_row id) db []) (fresh_row id) db (record { target = Some (1 ∷ 2 ∷ []); update = Some (record { lets = []; body = update_query }) }) found (Ok out) → Sets db out.trees tab key val
      go [] are m =
          let none = none_if (tab, key) (map from_row (db 0)) (λ x there on. are.complete (to_row x) (subst (λ rs. Has rs (to_row x)) (sym fine.typed) (row_has (map from_row (db 0)) x there)) (test_is x ∙ on)) in
          puts limit keys db tab key val fine id out none (cleared (fresh_row id) (Ok out) m.0 m.2)
      go (there ∷ more) are m =
          let s = are.sound there (inl refl) in
          let it = has_row (map from_row (db 0)) s.0 (subst (λ rs. Has rs s.0) fine.typed s.1) in
          let on : is_on (tab, key) it.0 ≡ true = sym (test_is it.0) ∙ ap (conflicts (Some (1 ∷ 2 ∷ [])) the_schema.indexes cell_table (fresh_row id)) (sym it.2) ∙ s.2 in
          let number : rowid there ≡ Int it.0.id = ap rowid s.3 ∙ ap rowid it.2 in
          updates limit keys db tab key val fine it.0 id out it.1 on
          (subst (λ v. Updates a_task (record { lets = []; body = update_query }) ((Int (pos tab) ∷ Blob key ∷ Blob val ∷ []) ++ v ∷ shown cell_table (fresh_row id)) db (Ok out)) number m)

  judged : (id : ℤ) (out : Written) (verdict : Option Refusal) → Judged a_task Abort clauses (fresh_row id) db verdict (Ok out) → Sets db out.trees tab key val
  judged id out None h = met id out h
  judged id out (Some (Violates c)) h = absurd (no_refusal h)
  judged id out (Some Mismatch) h = absurd (no_refusal h)
  judged id out (Some BadReference) h = absurd (no_refusal h)
  judged id out (Some NoRowid) h = absurd (no_refusal h)
  judged id out (Some TooDeep) h = absurd (no_refusal h)

  tries : (id : ℤ) (out : Written) → Tries a_task Abort clauses (fresh_row id) db (Ok out) → Sets db out.trees tab key val
  tries id out (inl h) = absurd (no_refusal h.1)
  tries id out (inr h) = judged id out h.0 h.2

-- The cell has the value.
pub upserts : (old new : State) (tab : ℕ) (key val : List ℕ) (count : ℕ) → IsKept old.now → Executes put_text (Int (pos tab) ∷ Blob key ∷ Blob val ∷ []) old new (Ok count)
    → IsKept new.now × (tables_in new.now ≡ insert (tables_in old.now) (tab, key) val)
upserts old new tab key val count fine h =
    let params = Int (pos tab) ∷ Blob key ∷ Blob val ∷ [] in
    let has = fine.schema in
    let db = old.now.trees in
    let command = InsertOr 0 Abort (Values terms 4) clauses in
    let w = runs_as put_text params old new the_schema has command put_is put_plain count h in
    let text = statement_of put_text (understood the_schema put_text) in
    let done = went (subst (λ s. Does old.step_limit (mode_of old) params (record old.now { schema = s }) text None command (Ok (w.tally, new.now))) has w.changed) in
    let now = ap (λ (p : Tally × Database). p.1) (same_value (went (went done.2).2).2) in
    let given = went done.1 in
    let counter = went given.2 in
    let each = went counter.2 in
    let counted = went each.2 in
    let source : Row = Null ∷ params in
    let task = the_task old.step_limit (mode_of old).keys params in
    let first = went (subst (λ rows. TriesEach task Abort clauses rows (count_of counter.0) (nothing db) (Ok each.0)) given.1.1 each.1) in
    let row_is : with_rowid Chosen (db 0) (cast_row cell_table source) ≡ Int (next_rowid (db 0)) ∷ params = rw (cast_null, cast_int) in
    let sets = tries old.step_limit (mode_of old).keys db tab key val fine.rows (next_rowid (db 0)) first.0 (subst (λ r. Tries task Abort clauses r db (Ok first.0)) row_is first.1) in
    let trees : done.0.trees ≡ first.0.trees = ap (λ (it : Written). it.trees) (same_value counted.2) ∙ same_value counted.1 ∙ ap (λ (p : Written × ℤ). p.0.trees) (same_value first.2) in
    let left : new.now.trees 0 ≡ first.0.trees 0 = ap (λ (d : Database). d.trees 0) now ∙ ap (λ (t : Trees). t 0) trees in
    let again : map from_row (new.now.trees 0) ≡ sets.0 = read_back sets.0 (new.now.trees 0) (left ∙ sets.1.typed) in (
      record {
        schema = ap (λ (d : Database). d.schema) now;
        rows = subst₂ AreRowsOf (sym again) (sym left) sets.1;
      },
      ap map_of again ∙ sets.2,
    )
