-- The tables of the outbox, and the queries that its texts are.
use Rattle.std.specs.Prelude.{ℕ, [], ◌∷◌, Some, None, codes, List}
use Rattle.sqlite.specs.declared.types.Value.TheVariants.{Null}
use Rattle.sqlite.specs.Table.{Table}
use Rattle.sqlite.specs.Schema.{Schema}
use Rattle.sqlite.specs.Term.{Term, lit, col, op2}
use Rattle.sqlite.specs.Collation.TheVariants.{Binary}
use Rattle.sqlite_sql.specs.declared.ops.BinaryOp.TheVariants as by
use Rattle.sqlite_sql.specs.declared.ops.CompareOp.TheVariants as cmp
use Rattle.sqlite.specs.Query.{Query}
use Rattle.sqlite_value.specs.Keys.{plain}
use Rattle.sqlite_catalog.specs.Change.{automatics, created}
use Rattle.fare_tables.specs.Queries.{number, rowid_column, table, meta_table, not_below_0, is_given, is_past, is_from, is_upto, is_positive, query, least_query}

abbrev pub device_table : ℕ → Table
device_table tree = table (codes "device") tree (rowid_column (codes "id") ∷ number (codes "upto") ∷ []) (Some 0) (0 ∷ []) [] [] (not_below_0 2 ∷ [])

abbrev pub tap_table : ℕ → Table
tap_table tree =
    table (codes "tap") tree
    (number (codes "owner") ∷ number (codes "device") ∷ number (codes "lane") ∷ number (codes "link") ∷ number (codes "product") ∷ number (codes "token") ∷ number (codes "moment") ∷ number (codes "day") ∷ [])
    None (1 ∷ 2 ∷ 3 ∷ []) ((1 ∷ 2 ∷ 3 ∷ []) ∷ (2 ∷ 4 ∷ []) ∷ []) (plain ∷ plain ∷ []) []

abbrev pub stated_table : ℕ → Table
stated_table tree =
    table (codes "stated") tree
    (number (codes "owner") ∷ number (codes "device") ∷ number (codes "day") ∷ number (codes "total") ∷ [])
    None (1 ∷ 2 ∷ 3 ∷ []) ((1 ∷ 2 ∷ 3 ∷ []) ∷ []) (plain ∷ []) []

-- the taps of the newest format: the routes are its last column
abbrev pub routed_table : ℕ → Table
routed_table tree =
    table (codes "tap2") tree
    (number (codes "owner") ∷ number (codes "device") ∷ number (codes "lane") ∷ number (codes "link") ∷ number (codes "product") ∷ number (codes "token") ∷ number (codes "moment") ∷ number (codes "day") ∷ number (codes "route") ∷ [])
    None (1 ∷ 2 ∷ 3 ∷ []) ((1 ∷ 2 ∷ 3 ∷ []) ∷ (2 ∷ 4 ∷ []) ∷ []) (plain ∷ plain ∷ []) []

-- after one, two, three, four and all five CREATE TABLE: trees 3 and 4 are the indexes of the first format's taps, 6 is
-- that of the statements, and 8 and 9 are those of the taps
abbrev pub one_table : Schema
one_table = record { tables = meta_table 0 ∷ []; indexes = []; views = [] }

abbrev pub two_tables : Schema
two_tables = record { tables = meta_table 0 ∷ device_table 1 ∷ []; indexes = []; views = [] }

abbrev pub three_tables : Schema
three_tables = record { tables = meta_table 0 ∷ device_table 1 ∷ tap_table 2 ∷ []; indexes = automatics (tap_table 2) 0 3 ((1 ∷ 2 ∷ 3 ∷ []) ∷ (2 ∷ 4 ∷ []) ∷ []); views = [] }

abbrev pub four_tables : Schema
four_tables = record {
  tables = meta_table 0 ∷ device_table 1 ∷ tap_table 2 ∷ stated_table 5 ∷ [];
  indexes = (created three_tables (stated_table 5)).indexes;
  views = [];
}

-- of the first format
unfoldable pub first_schema : Schema
first_schema = four_tables

unfoldable pub outbox_schema : Schema
outbox_schema = record {
  tables = meta_table 0 ∷ device_table 1 ∷ tap_table 2 ∷ stated_table 5 ∷ routed_table 7 ∷ [];
  indexes = (created four_tables (routed_table 7)).indexes;
  views = [];
}

-- the greatest link of a device
abbrev pub link_query : Query
link_query = query 1 (is_given 0 0 ∷ []) (col 1 2 ∷ []) []

-- the row of least lane number past one
abbrev pub row_terms : List Term
row_terms = is_given 1 0 ∷ is_given 2 1 ∷ is_past 3 2 ∷ []

abbrev pub row_columns : List Term
row_columns = col 1 3 ∷ col 1 4 ∷ col 1 5 ∷ col 1 6 ∷ col 1 7 ∷ col 1 8 ∷ col 1 9 ∷ []

abbrev pub row_query : Query
row_query = least_query 7 row_terms row_columns 3

-- the statement of least day from one on
abbrev pub day_terms : List Term
day_terms = is_given 1 0 ∷ is_given 2 1 ∷ is_from 3 2 ∷ []

abbrev pub day_columns : List Term
day_columns = col 1 3 ∷ col 1 4 ∷ []

abbrev pub day_query : Query
day_query = least_query 5 day_terms day_columns 3

-- the rows up to a lane number, which go
abbrev pub cut_terms : List Term
cut_terms = is_given 1 0 ∷ is_given 2 1 ∷ is_upto 3 2 ∷ []

abbrev pub cut_query : Query
cut_query = query 7 cut_terms (col 1 0 ∷ []) []

-- the statements before a day, which go
abbrev pub is_below : ℕ → ℕ → Term
is_below place parameter = op2 (by.Compare cmp.Lt Binary) (col 1 place) (col 0 parameter)

abbrev pub told_terms : List Term
told_terms = is_given 1 0 ∷ is_given 2 1 ∷ is_below 3 2 ∷ []

abbrev pub told_query : Query
told_query = query 5 told_terms (col 1 0 ∷ []) []

-- the device's row that is written anew: the parameters are the two given, the rowid that is taken, and the row that couldn't go in
abbrev pub renew_query : Query
renew_query = query 1 (is_given 0 2 ∷ []) (col 1 0 ∷ col 1 0 ∷ lit Null ∷ col 0 5 ∷ []) []

-- the devices that were seen
abbrev pub seen_terms : List Term
seen_terms = is_positive 2 ∷ []
