-- What the making of the table does.
use Rattle.std.proofs.Common.{◌≡◌, ℕ, List, [], Ok, Err, Result, OnOk, refl, sym, ap, subst, ◌∙◌}
use Rattle.std.specs.FinMap.{empty}
use Rattle.sqlite.specs.declared.error.Error.{Error}
use Rattle.sqlite.specs.Order.{Row}
use Rattle.sqlite.specs.Command.TheVariants.{CreateTable}
use Rattle.sqlite.specs.Compile.{table_defined_by}
use Rattle.sqlite.specs.Change.{created, next_tree}
use Rattle.sqlite.specs.Does.{Tally, lacks_sequence}
use Rattle.sqlite.specs.Schema.{Schema}
use Rattle.sqlite_tied.specs.Compute.{everything}
use Rattle.sqlite.specs.Listing.{understood}
use Rattle.sqlite.specs.Effect.{Database}
use Rattle.sqlite.specs.State.{State, Writes, Executes}
use Rattle.sqlite.proofs.Callers.{IsPlain, command_of, statement_of, runs_as}
use Rattle.keeper_sql.specs.Statements.{cell, create_text, no_schema, the_schema}
use Rattle.keeper_sql.specs.CellRows.{from_row, map_of, tables_in, IsKept, AreRowsOf}
use Rattle.keeper_sql.proofs.Deleting.{went, same_value}

create_is : (command_of (understood no_schema create_text) ≡ CreateTable) × (statement_of create_text (understood no_schema create_text) ≡ create_text) × (table_defined_by create_text ≡ Ok cell)
unfolding understood everything
create_is = (refl, refl, refl)

create_plain : IsPlain (understood no_schema create_text)
unfolding understood everything
create_plain = (refl, refl)

no_rows : (rows : List Row) → rows ≡ [] → AreRowsOf (Rattle.std.proofs.Common.map from_row rows) rows
no_rows rows none = subst (λ rs. AreRowsOf (Rattle.std.proofs.Common.map from_row rs) rs) (sym none) (record { typed = refl; keyed = tt; apart = tt })

creates : (old new : State) (count : ℕ) → old.now.schema ≡ no_schema → Executes create_text [] old new (Ok count) → IsKept new.now × (tables_in new.now ≡ empty) × (new.in_transaction ≡ old.in_transaction)
creates old new count has h =
    let w = subst (λ t. Writes old new Rattle.std.proofs.Common.None CreateTable t [] count) create_is.1 (runs_as create_text [] old new no_schema has CreateTable create_is.0 create_plain count h) in
    let all = went w.changed in
    let first = went all.1 in
    let made = first.1 in
    let both : Ok made.table ≡ Ok cell = sym made.defined ∙ create_is.2 in
    let same : made.table ≡ cell = cc in
    let schema : first.0.schema ≡ the_schema = made.is ∙ ap (λ s. created s made.table) has ∙ ap (created no_schema) same in
    let plain : lacks_sequence first.0.schema ≡ Rattle.std.proofs.Common.false = ap lacks_sequence schema in
    let now : new.now ≡ first.0 = ap (λ (p : Tally × Database). p.1) (same_value all.2) ∙ same_value (rw plain at first.2) in
    let none : new.now.trees 0 ≡ [] = ap (λ (d : Database). d.trees 0) now ∙ subst (λ s. first.0.trees (next_tree s) ≡ []) has made.empty in
    (record { schema = ap (λ (d : Database). d.schema) now ∙ schema; rows = no_rows (new.now.trees 0) none }, ap (λ (rs : List Row). map_of (Rattle.std.proofs.Common.map from_row rs)) none, w.shown.mode)

pub creates_if_ok : (old new : State) (r : Result ℕ Error) → old.now.schema ≡ no_schema → Executes create_text [] old new r → OnOk r (IsKept new.now × (tables_in new.now ≡ empty) × (new.in_transaction ≡ old.in_transaction))
creates_if_ok old new (Err e) has h = tt
creates_if_ok old new (Ok count) has h = creates old new count has h
