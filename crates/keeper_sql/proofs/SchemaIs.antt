-- What the parts of a schema make of it, where they are those of the keeper's.
use Rattle.std.proofs.Common.{◌≡◌, ℕ, Bool, true, false, List, [], ◌∷◌, Option, None, codes, ap}
use Rattle.sqlite.specs.declared.types.Value.{Value}
use Rattle.sqlite.specs.declared.types.Value.TheVariants.{Null}
use Rattle.sqlite.specs.Collation.{Collation}
use Rattle.sqlite.specs.Collation.TheVariants.{Binary}
use Rattle.sqlite.specs.Kind.{Kind}
use Rattle.sqlite.specs.Schema.{Schema}
use Rattle.sqlite.specs.Table.{Table}
use Rattle.sqlite_schema.specs.declared.schema.Column.{Column}
use Rattle.sqlite_schema.specs.declared.schema.Index.{Index}
use Rattle.sqlite_schema.specs.declared.schema.Stamps.{Stamps}
use Rattle.std.specs.Fmt.{digits}
use Rattle.keeper_sql.specs.Statements.{cell, cell_index, cell_column, no_schema, the_schema}

pub schema_bare : (s : Schema) → s.tables ≡ [] → s.indexes ≡ [] → s.views ≡ [] → s ≡ no_schema
schema_bare s tables indexes views = λ i. record { tables = tables i; indexes = indexes i; views = views i }

pub column_is : (c : Column) (name : List ℕ) (kind : Kind) → c.name ≡ name → c.kind ≡ kind → c.is_strict ≡ true → c.not_null ≡ true → c.default ≡ Null → c.collation ≡ Binary → c ≡ cell_column name kind
column_is c name kind named kinds strict filled default collation = λ i. record {
  name = named i;
  kind = kinds i;
  is_strict = strict i;
  not_null = filled i;
  default = default i;
  collation = collation i;
}

pub stamps_are : (s : Stamps) → s.places ≡ [] → s.terms ≡ [] → s.formats ≡ [] → s ≡ cell.stamps
stamps_are s places terms formats = λ i. record { places = places i; terms = terms i; formats = formats i }

pub table_is : (t : Table) → t.name ≡ cell.name → t.tree ≡ 0 → t.columns ≡ cell.columns → t.key ≡ None → t.primary ≡ cell.primary → t.uniques ≡ cell.uniques → t.orders ≡ cell.orders
    → t.checks ≡ [] → t.references ≡ [] → t.computed ≡ [] → t.stamps ≡ cell.stamps → t.is_counted ≡ false → t ≡ cell
table_is t name tree columns key primary uniques orders checks references computed stamps counted = λ i. record {
  name = name i;
  tree = tree i;
  columns = columns i;
  key = key i;
  primary = primary i;
  uniques = uniques i;
  orders = orders i;
  checks = checks i;
  references = references i;
  computed = computed i;
  stamps = stamps i;
  is_counted = counted i;
}

pub index_is : (x : Index) → x.name ≡ cell_index.name → x.tree ≡ 1 → x.table ≡ 0 → x.columns ≡ 1 ∷ 2 ∷ [] → x.order.digits ≡ 0 → x.is_unique ≡ true → x ≡ cell_index
index_is x name tree table columns order unique = λ i. record {
  name = name i;
  tree = tree i;
  table = table i;
  columns = columns i;
  order = record { digits = order i };
  is_unique = unique i;
}

pub schema_is : (s : Schema) → s.tables ≡ cell ∷ [] → s.indexes ≡ cell_index ∷ [] → s.views ≡ [] → s ≡ the_schema
unfolding digits
schema_is s tables indexes views = λ i. record { tables = tables i; indexes = indexes i; views = views i }
