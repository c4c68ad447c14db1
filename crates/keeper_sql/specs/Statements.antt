-- The statements of a keeper over a database, and what a batch of changes runs.
use Rattle.std.specs.Prelude.{negsuc, map, filter, Bool, None, false, IsPermutation}
use Rattle.std.specs.List.{list_all}
use Rattle.sqlite.specs.Order.{Row, column}
use Rattle.sqlite.specs.Collation.TheVariants.{Binary}
use Rattle.sqlite_sql.specs.declared.ops.BinaryOp.TheVariants.{Compare, Or}
use Rattle.sqlite_sql.specs.declared.ops.CompareOp.TheVariants.{Eq, Lt, Gt}
use Rattle.sqlite.specs.Term.{Term, lit, col, op2, holds}
use Rattle.sqlite.specs.Query.{Query, inner, end}
use Rattle.sqlite.specs.Table.{Table}
use Rattle.sqlite.specs.Schema.{Schema}
use Rattle.sqlite.specs.Effect.{Database}
use Rattle.sqlite.specs.Edit.{without_all}
use Rattle.sqlite_rules.specs.Calls.{ids_of}
use Rattle.sqlite.specs.Kind.{Kind}
use Rattle.sqlite.specs.Kind.TheVariants.{Integer, Blob as Bytes}
use Rattle.sqlite_schema.specs.declared.schema.Column.{Column}
use Rattle.sqlite_schema.specs.declared.schema.Index.{Index}
use Rattle.sqlite.specs.Change.{created}
use Rattle.std.specs.Prelude.{ℕ, ℤ, ◌≡◌, pos, true, List, [], ◌∷◌, codes, Ok}
use Rattle.sqlite.specs.Store.{Ghosts}
use Rattle.sqlite.specs.declared.types.Value.TheVariants.{Int, Blob, Null}
use Rattle.sqlite.specs.State.{State, ExecutesInside}
use Rattle.sqlite.specs.Held.{Held, state}
use Rattle.keeper_core.specs.declared.change.Change.{Change}
use Rattle.keeper_core.specs.declared.change.Change.TheVariants.{Put, Delete}

abbrev pub create_text : List ℕ
create_text = codes "CREATE TABLE cell(tab INTEGER NOT NULL, key BLOB NOT NULL, val BLOB NOT NULL, PRIMARY KEY (tab, key)) STRICT"

abbrev pub get_text : List ℕ
get_text = codes "SELECT val FROM cell WHERE tab = ?1 AND key = ?2"

abbrev pub scan_text : List ℕ
scan_text = codes "SELECT key, val FROM cell WHERE tab = ?1 ORDER BY key"

abbrev pub put_text : List ℕ
put_text = codes "INSERT INTO cell(tab, key, val) VALUES (?1, ?2, ?3) ON CONFLICT(tab, key) DO UPDATE SET val = excluded.val"

abbrev pub insert_text : List ℕ
insert_text = codes "INSERT INTO cell(tab, key, val) VALUES (?1, ?2, ?3)"

abbrev pub del_text : List ℕ
del_text = codes "DELETE FROM cell WHERE tab = ?1 AND key = ?2"

abbrev pub no_schema : Schema
no_schema = record { tables = []; indexes = []; views = [] }

abbrev pub cell_column : List ℕ → Kind → Column
cell_column name kind =
    record {
      name = name;
      kind = kind;
      is_strict = true;
      not_null = true;
      default = Null;
      collation = Binary;
    }

-- the table that the text makes
abbrev pub cell : Table
cell = record {
  name = codes "cell";
  tree = 0;
  columns = cell_column (codes "tab") Integer ∷ cell_column (codes "key") Bytes
      ∷ cell_column (codes "val") Bytes ∷ [];
  key = None;
  primary = 1 ∷ 2 ∷ [];
  uniques = (1 ∷ 2 ∷ []) ∷ [];
  orders = record { digits = 0 } ∷ [];
  checks = [];
  references = [];
  computed = [];
  stamps = record { places = []; terms = []; formats = [] };
  is_counted = false;
}

-- the index that is made for the key of the table
abbrev pub cell_index : Index
cell_index = record {
  name = codes "sqlite_autoindex_cell_1";
  tree = 1;
  table = 0;
  columns = 1 ∷ 2 ∷ [];
  order = record { digits = 0 };
  is_unique = true;
}

abbrev pub the_schema : Schema
the_schema = created no_schema cell

-- the rows whose number is none that a table of a keeper has
abbrev pub stray_text : List ℕ
stray_text = codes "SELECT tab FROM cell WHERE tab < 0 OR tab > 255"

abbrev pub strays : List Term
strays = op2 Or (op2 (Compare Lt Binary) (col 1 1) (lit (Int (pos 0))))
    (op2 (Compare Gt Binary) (col 1 1) (lit (Int (pos 255)))) ∷ []

abbrev pub stray_query : Query
stray_query = record {
  from = inner 0 end;
  filter = strays;
  group = None;
  project = col 1 1 ∷ [];
  distinct = false;
  collations = [];
  order = [];
  limit = lit (Int (negsuc 0));
  offset = lit (Int (pos 0));
}

abbrev pub is_stray : Row → Bool
is_stray row = list_all (holds ([] ∷ row ∷ [])) strays

abbrev pub wanted : List Term
wanted = op2 (Compare Eq Binary) (col 1 1) (col 0 0)
    ∷ op2 (Compare Eq Binary) (col 1 2) (col 0 1) ∷ []

abbrev pub get_query : Query
get_query = record {
  from = inner 0 end;
  filter = wanted;
  group = None;
  project = col 1 3 ∷ [];
  distinct = false;
  collations = [];
  order = [];
  limit = lit (Int (negsuc 0));
  offset = lit (Int (pos 0));
}

abbrev pub picks : ℤ → List ℕ → Row → Bool
picks tab key row = list_all (holds ((Int tab ∷ Blob key ∷ []) ∷ row ∷ [])) wanted

abbrev pub params_of : ℤ → List ℕ → Row
params_of tab key = Int tab ∷ Blob key ∷ []

-- The rows show the value of each row of the cell, in some order.
abbrev pub ShowsCell : ℤ → List ℕ → List Row → List Row → Type 0
ShowsCell tab key cells rows = IsPermutation
    (map (λ r. column r 3 ∷ []) (filter (picks tab key) cells)) rows
