-- What a database holds that is seen to have the keeper's table.
use Rattle.std.proofs.Common.{◌≡◌, List, [], filter, IsTrue, true, false, Bool, sym, ap, subst, ◌∙◌}
use Rattle.sqlite.specs.Order.{Row}
use Rattle.sqlite.specs.Effect.{Database}
use Rattle.sqlite.specs.Schema.{Schema}
use Rattle.sqlite.specs.State.{State, IsLive, IsUnchanged}
use Rattle.sqlite.specs.Tree.{Trees}
use Rattle.sqlite.specs.View.{View, IsShaped, IsClean, IsRolledBack}
use Rattle.sqlite.specs.Steps.{IsFresh}
use Rattle.sqlite_catalog.specs.Listing.{IsSound}
use Rattle.sqlite_trees.specs.declared.store.Shape.TheVariants.{Table}
use Rattle.std.proofs.Common.{map}
use Rattle.std.specs.FinMap.{empty}
use Rattle.keeper_sql.specs.Statements.{is_stray, the_schema}
use Rattle.keeper_sql.specs.CellRows.{from_row, map_of, tables_in, IsKept}
use Rattle.keeper_sql.proofs.Adopting.{adopted_rows}

-- a table that is there
pub settles : (old new : State) → old.now.schema ≡ the_schema → IsLive old → IsUnchanged old new → IsShaped Table (old.now.trees 0) → filter is_stray (old.now.trees 0) ≡ [] → IsKept new.now × (tables_in new.now ≡ tables_in old.now)
settles old new has live same shaped none =
    let sound : IsSound old.now.schema old.now.trees = (live same.0.was_open).0 in
    let kept : IsKept old.now = record { schema = has; rows = adopted_rows old.now.trees (subst (λ (s : Schema). IsSound s old.now.trees) has sound) shaped none } in
    (subst IsKept (sym same.0.now_is) kept, ap tables_in same.0.now_is)

-- a database with no such table has no rows in its place
pub no_map : (db : Database) → db.trees 0 ≡ [] → tables_in db ≡ empty
no_map db none = ap (λ (rows : List Row). map_of (map from_row rows)) none

-- ---- a store that was taken out of its connection

not_shut : (is_open is_broken : Bool) → (is_open ≡ false → IsTrue is_broken) → is_broken ≡ false → IsTrue is_open
not_shut true is_broken law whole = Rattle.std.proofs.Common.refl
not_shut false is_broken law whole = absurd (let h = law Rattle.std.proofs.Common.refl in let e : true ≡ false = sym h ∙ whole in cc)

pub open_if_whole : (v : View) → (v.is_open ≡ false → IsTrue v.is_broken) → v.is_broken ≡ false → IsTrue v.is_open
open_if_whole v law whole = not_shut v.is_open v.is_broken law whole

-- it may be opened again
pub fresh_store : (old new : View) → IsRolledBack old new → IsClean new → IsTrue new.is_numbered → IsTrue new.is_open → new.is_broken ≡ false → IsFresh new
fresh_store old new undone clean numbered live whole = record {
  sound = whole;
  numbered = numbered;
  clean = (undone.undone live).0 ∙ sym ((undone.kept clean).committed live);
  unmarked = (undone.kept clean).marks live;
}
