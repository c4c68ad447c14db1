-- What the insertion of a cell does, where it has no row.
use Rattle.std.proofs.Common.{◌≡◌, ℕ, ℤ, pos, List, [], ◌∷◌, ◌++◌, map, filter, cond, Bool, true, false, None, Some, Ok, Err, Result, refl, sym, ap, subst, subst₂, ◌∙◌}
use Rattle.std.specs.FinMap.{get, insert}
use Rattle.sqlite.specs.declared.types.Value.{Value}
use Rattle.sqlite.specs.declared.types.Value.TheVariants.{Null, Int, Blob}
use Rattle.sqlite.specs.Order.{Row}
use Rattle.sqlite.specs.Term.{Term, lit, col}
use Rattle.sqlite.specs.Ops.{unary}
use Rattle.sqlite.specs.Kind.TheVariants.{Integer}
use Rattle.sqlite.specs.Source.TheVariants.{Values}
use Rattle.sqlite.specs.Command.TheVariants.{Insert}
use Rattle.sqlite.specs.Edit.{Edit, edit_of, edited, next_rowid}
use Rattle.sqlite.specs.Cast.{cast}
use Rattle.sqlite.specs.Rowids.TheVariants.{Chosen}
use Rattle.sqlite.specs.Does.{Tally, Does}
use Rattle.sqlite.specs.Rows.{Written}
use Rattle.sqlite.specs.Tree.{Trees, put_row}
use Rattle.sqlite_tied.specs.Compute.{everything}
use Rattle.sqlite.specs.Listing.{understood}
use Rattle.sqlite.specs.Effect.{Database}
use Rattle.sqlite.specs.State.{State, mode_of, Executes}
use Rattle.sqlite.proofs.Callers.{IsPlain, command_of, statement_of, runs_as, one_step}
use Rattle.sqlite_keyed.specs.Keyed.{next_key}
use Rattle.keeper_core.specs.Tables.{Cell}
use Rattle.keeper_sql.specs.CellRows.{CellRow, to_row, from_row, map_of, is_on, tables_in, IsKept, AreRowsOf}
use Rattle.keeper_sql.proofs.CellLists.{read_back, none_left, puts_in, map_with}
use Rattle.keeper_sql.proofs.Deleting.{went, same_value}
use Rattle.keeper_sql.specs.Statements.{cell as cell_table, insert_text, the_schema}

abbrev terms : List Term
terms = lit Null ∷ col 0 0 ∷ col 0 1 ∷ col 0 2 ∷ []

insert_is : command_of (understood the_schema insert_text) ≡ Insert 0 (Values terms 4)
unfolding understood everything
insert_is = refl

insert_plain : IsPlain (understood the_schema insert_text)
unfolding understood everything
insert_plain = (refl, refl)

either : (b : Bool) (x : Value) → cond b x x ≡ x
either true x = refl
either false x = refl

cast_null : cast Integer Null ≡ Null
unfolding unary
cast_null = either _ Null

cast_int : (n : ℤ) → cast Integer (Int n) ≡ Int n
unfolding unary
cast_int n = either _ (Int n)

-- The cell has a row, and its value.
pub inserts : (old new : State) (tab : ℕ) (key val : List ℕ) (count : ℕ) → IsKept old.now → get (tables_in old.now) (tab, key) ≡ None
    → Executes insert_text (Int (pos tab) ∷ Blob key ∷ Blob val ∷ []) old new (Ok count)
    → IsKept new.now × (tables_in new.now ≡ insert (tables_in old.now) (tab, key) val)
inserts old new tab key val count fine free h =
    let params = Int (pos tab) ∷ Blob key ∷ Blob val ∷ [] in
    let has = fine.schema in
    let db = old.now.trees in
    let xs = map from_row (db 0) in
    let cell : Cell = (tab, key) in
    let command = Insert 0 (Values terms 4) in
    let w = runs_as insert_text params old new the_schema has command insert_is insert_plain count h in
    let text = statement_of insert_text (understood the_schema insert_text) in
    let done = went (subst (λ s. Does old.step_limit (mode_of old) params (record old.now { schema = s }) text None command (Ok (w.tally, new.now))) has w.changed) in
    let now = ap (λ (p : Tally × Database). p.1) (same_value (went (went done.2).2).2) in
    let given = went done.1 in
    let written = went (went given.2).2 in
    let counted = went written.2 in
    let trees : done.0.trees ≡ written.0 = ap (λ (it : Written). it.trees) (same_value counted.2) ∙ same_value counted.1 in
    let rows = (one_step the_schema _ db written.0 (edit_of db cell_table [] Chosen 0 given.0) refl written.1).rows in
    let edit : edited db (edit_of db cell_table [] Chosen 0 given.0) ≡ put_row (Int (next_rowid (db 0)) ∷ Int (pos tab) ∷ Blob key ∷ Blob val ∷ []) (db 0) =
    ap (λ all. edited db (edit_of db cell_table [] Chosen 0 all)) given.1.1 ∙ rw (cast_null, cast_int) in
    let none = none_left cell xs free in
    let new_row : CellRow = record { id = next_key (λ (x : CellRow). x.id) xs; tab = tab; key = key; val = val } in
    let put_rows = puts_in xs (db 0) tab key val fine.rows none in
    let left : new.now.trees 0 ≡ put_row (Int (next_rowid (db 0)) ∷ Int (pos tab) ∷ Blob key ∷ Blob val ∷ []) (db 0) = ap (λ (d : Database). d.trees 0) now ∙ ap (λ (t : Trees). t 0) trees ∙ rows ∙ edit in
    let again : map from_row (new.now.trees 0) ≡ xs ++ new_row ∷ [] = read_back (xs ++ new_row ∷ []) (new.now.trees 0) (left ∙ put_rows.typed) in (
      record {
        schema = ap (λ (d : Database). d.schema) now;
        rows = subst₂ AreRowsOf (sym again) (sym left) put_rows;
      },
      ap map_of again ∙ map_with xs new_row none,
    )
