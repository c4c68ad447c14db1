-- The map that the table of a database stands for.
use Rattle.std.specs.Prelude.{◌≡◌, ℕ, ℤ, pos, negsuc, Bool, false, List, [], ◌∷◌, map, Option, None, Some, IsTrue, if◌then◌else◌}
use Rattle.std.specs.Ordering.{eq_by_cmp}
use Rattle.std.specs.Coded.{Coded, coded_list, coded_bool, coded_ℤ}
use Rattle.sqlite_value.specs.contracts.row.Row as coded_row
use Rattle.sqlite_schema.specs.contracts.schema.Schema as coded_schema
use Rattle.sqlite.specs.Schema.{Schema}
use Rattle.std.specs.FinMap.{from_entries}
use Rattle.sqlite.specs.declared.types.Value.TheVariants.{Int, Blob}
use Rattle.sqlite.specs.Order.{Row, column, bytes}
use Rattle.sqlite.specs.Edit.{id_in}
use Rattle.sqlite.specs.Effect.{Database}
use Rattle.sqlite.specs.State.{State}
use Rattle.sqlite_keyed.specs.Keyed.{IsKeyedBy}
use Rattle.sqlite_keyed.specs.Rules.{AreApart}
use Rattle.keeper_core.specs.declared.row.Row as keeper
use Rattle.keeper_core.specs.Knowing.{Known}
use Rattle.keeper_core.specs.Tables.{Cell, cell_cmp, Tables}
use Rattle.keeper_sql.specs.Statements.{the_schema}

-- a row of the table, under its rowid
pub record CellRow : Type 0 where
  pub id : ℤ
  pub tab : ℕ
  pub key : List ℕ
  pub val : List ℕ

abbrev pub cell_in : CellRow → Cell
cell_in x = (x.tab, x.key)

abbrev pub to_row : CellRow → Row
to_row x = Int x.id ∷ Int (pos x.tab) ∷ Blob x.key ∷ Blob x.val ∷ []

abbrev pub count_in : ℤ → ℕ
count_in (pos n) = n
count_in (negsuc n) = 0

abbrev pub from_row : Row → CellRow
from_row cells = record {
  id = id_in (column cells 0);
  tab = count_in (id_in (column cells 1));
  key = bytes (column cells 2);
  val = bytes (column cells 3);
}

abbrev pub entry_in : CellRow → Cell × List ℕ
entry_in x = (cell_in x, x.val)

abbrev pub map_of : List CellRow → Tables
map_of xs = from_entries (map entry_in xs)

-- the row is that of the cell
abbrev pub is_on : Cell → CellRow → Bool
is_on cell x = eq_by_cmp cell_cmp cell (cell_in x)

-- The rows are these, each under a rowid of its own, and no two of one cell.
pub record AreRowsOf (xs : List CellRow) (rows : List Row) : Type 0 where
  pub typed : rows ≡ map to_row xs
  pub keyed : IsKeyedBy (λ x. x.id) xs
  pub apart : AreApart (λ a b. is_on (cell_in a) b) xs

abbrev pub tables_in : Database → Tables
tables_in db = map_of (map from_row (db.trees 0))

-- the database has the keeper's table alone, in its form
pub record IsKept (db : Database) : Type 0 where
  pub schema : db.schema ≡ the_schema
  pub rows : AreRowsOf (map from_row (db.trees 0)) (db.trees 0)

-- what a selection of a value shows
abbrev pub shown_value : Option (List ℕ) → List Row
shown_value None = []
shown_value (Some val) = (Blob val ∷ []) ∷ []

-- the transaction goes on, and its database stands for this map
pub record GoesOnWith (new : State) (tables : Tables) : Type 0 where
  pub inside : IsTrue new.in_transaction
  pub kept : IsKept new.now
  pub map_is : tables_in new.now ≡ tables

-- The connection is open, and its database stands for this map.
pub record Becomes (new : State) (tables : Tables) : Type 0 where
  pub is_open : IsTrue new.is_open
  pub kept : IsKept new.now
  pub map_is : tables_in new.now ≡ tables

-- a row of the keeper, as a scan shows it
abbrev pub scan_row : keeper.Row → Row
scan_row row = Blob row.key ∷ Blob row.val ∷ []

abbrev pub keeper_row : CellRow → keeper.Row
keeper_row x = record { key = x.key; val = x.val }

-- by these a proof finds that there is one proof at most that a database is kept
abbrev pub schema_code : Coded Schema
schema_code = coded_schema.the_row.coded

abbrev pub rows_code : Coded (List Row)
rows_code = coded_list coded_row.the_row.coded

-- The map is told while the connection is open, which it is only while its disk has returned what
-- was written.
abbrev pub told_by : State → Option Tables
told_by s = if s.is_open then Some (tables_in s.now) else None

-- What is known of the keeper. It never stops, since it may fail a call and answer the next, and
-- tells nothing of what is to come.
abbrev pub known_by : State → ℕ → ℕ → Known
known_by s faults looked =
    record {
      tables = told_by s;
      stopped = false;
      faults = faults;
      looked = looked;
      coming = None;
    }

-- what is known of a keeper that was just made
abbrev pub known_first : Option Tables → ℕ → Known
known_first told faults =
    record { tables = told; stopped = false; faults = faults; looked = 0; coming = None }
