-- The queries that the statements of a store are read as.
use Rattle.std.specs.Prelude.{ℕ, pos, negsuc, true, false, codes, List, [], ◌∷◌, Option, Some, None}
use Rattle.sqlite.specs.Collation.TheVariants.{Binary}
use Rattle.sqlite.specs.declared.types.Value.TheVariants.{Null, Int}
use Rattle.sqlite.specs.Kind.TheVariants.{Integer}
use Rattle.sqlite.specs.Table.{Table}
use Rattle.sqlite.specs.Term.{Term, lit, col, op2}
use Rattle.sqlite.specs.Query.{Query, inner, end}
use Rattle.sqlite_schema.specs.declared.schema.Column.{Column}
use Rattle.sqlite_sql.specs.Group.{Aggregate, Grouping}
use Rattle.sqlite_sql.specs.declared.aggregate.AggregateOp.TheVariants.{CountRows}
use Rattle.sqlite_sql.specs.declared.ops.BinaryOp.TheVariants as by
use Rattle.sqlite_sql.specs.declared.ops.CompareOp.TheVariants as cmp
use Rattle.sqlite_value.specs.Keys.{ascending}
use Rattle.sqlite_value.specs.declared.keys.Key.{Key}
use Rattle.sqlite_value.specs.declared.keys.Order.{Order}

-- TABLES
-- a column of integers, which is never null
abbrev pub number : List ℕ → Column
number name = record { name = name; kind = Integer; is_strict = true; not_null = true; default = Null; collation = Binary }

-- a column that is the rowid
abbrev pub rowid_column : List ℕ → Column
rowid_column name = record (number name) { not_null = false }

abbrev pub table : List ℕ → ℕ → List Column → Option ℕ → List ℕ → List (List ℕ) → List Order → List Term → Table
table name tree columns key primary uniques orders checks = record {
  name = name;
  tree = tree;
  columns = columns;
  key = key;
  primary = primary;
  uniques = uniques;
  orders = orders;
  checks = checks;
  references = [];
  computed = [];
  stamps = record { places = []; terms = []; formats = [] };
  is_counted = false;
}

-- a check that a column is 0 or more
abbrev pub not_below_0 : ℕ → Term
not_below_0 place = op2 (by.Compare cmp.Ge Binary) (col 1 place) (lit (Int (pos 0)))

-- TERMS: column 0 is the rowid, and parameters count from 0
abbrev pub is_given : ℕ → ℕ → Term
is_given place parameter = op2 (by.Compare cmp.Eq Binary) (col 1 place) (col 0 parameter)

abbrev pub is_past : ℕ → ℕ → Term
is_past place parameter = op2 (by.Compare cmp.Gt Binary) (col 1 place) (col 0 parameter)

abbrev pub is_from : ℕ → ℕ → Term
is_from place parameter = op2 (by.Compare cmp.Ge Binary) (col 1 place) (col 0 parameter)

abbrev pub is_upto : ℕ → ℕ → Term
is_upto place parameter = op2 (by.Compare cmp.Le Binary) (col 1 place) (col 0 parameter)

abbrev pub is_positive : ℕ → Term
is_positive place = op2 (by.Compare cmp.Gt Binary) (col 1 place) (lit (Int (pos 0)))

-- QUERIES
-- all rows of a table that pass the terms
abbrev pub query : ℕ → List Term → List Term → List (Term × Key) → Query
query tree filter project order = record {
  from = inner tree end;
  filter = filter;
  group = None;
  project = project;
  distinct = false;
  collations = [];
  order = order;
  limit = lit (Int (negsuc 0));
  offset = lit (Int (pos 0));
}

-- of these the one that is least in a column
abbrev pub least_query : ℕ → List Term → List Term → ℕ → Query
least_query tree filter project place = record (query tree filter project ((col 1 place, ascending Binary) ∷ [])) { limit = lit (Int (pos 1)) }

-- count(*), which has one group also where there is no row
abbrev pub count_rows : Aggregate
count_rows = record { op = CountRows; distinct = false; collation = Binary; argument = lit Null }

abbrev pub as_one : Grouping
as_one = record { keys = []; collations = []; aggregates = count_rows ∷ []; having = [] }

abbrev pub count_query : ℕ → List Term → Query
count_query tree filter = record (query tree filter (col 1 0 ∷ []) []) { group = Some as_one }

-- the table that says whose tables these are
abbrev pub meta_table : ℕ → Table
meta_table tree = table (codes "meta") tree (number (codes "format") ∷ number (codes "owner") ∷ []) None [] [] [] []
