-- The tables of a ledger, and the queries that its texts are.
use Rattle.std.specs.Prelude.{[], ◌∷◌, Some, None, codes, List, ℕ}
use Rattle.sqlite.specs.declared.types.Value.TheVariants.{Null}
use Rattle.sqlite.specs.Collation.TheVariants.{Binary}
use Rattle.sqlite.specs.Table.{Table}
use Rattle.sqlite.specs.Schema.{Schema}
use Rattle.sqlite.specs.Term.{Term, lit, col, op2}
use Rattle.sqlite.specs.Query.{Query}
use Rattle.sqlite_sql.specs.declared.ops.BinaryOp.TheVariants as by
use Rattle.sqlite_sql.specs.declared.ops.CompareOp.TheVariants as cmp
use Rattle.sqlite_value.specs.Keys.{plain, ascending}
use Rattle.sqlite_catalog.specs.Change.{automatics, created}
use Rattle.fare_tables.specs.Queries.{number, rowid_column, table, meta_table, not_below_0, is_given, is_from, is_upto, is_positive, query, least_query}

abbrev pub lane_table : ℕ → Table
lane_table tree =
    table (codes "lane") tree
    (rowid_column (codes "device") ∷ number (codes "taken") ∷ number (codes "closed") ∷ [])
    (Some 0) (0 ∷ []) [] [] (not_below_0 2 ∷ not_below_0 3 ∷ [])

abbrev pub tap_table : ℕ → Table
tap_table tree =
    table (codes "tap") tree
    (number (codes "device") ∷ number (codes "lane") ∷ number (codes "link") ∷ number (codes "product") ∷ number (codes "token") ∷ number (codes "moment") ∷ number (codes "day") ∷ [])
    None (1 ∷ 2 ∷ []) ((1 ∷ 2 ∷ []) ∷ []) (plain ∷ []) []

abbrev pub stated_table : ℕ → Table
stated_table tree =
    table (codes "stated") tree
    (number (codes "device") ∷ number (codes "day") ∷ number (codes "total") ∷ [])
    None (1 ∷ 2 ∷ []) ((1 ∷ 2 ∷ []) ∷ []) (plain ∷ []) []

abbrev pub retired_table : ℕ → Table
retired_table tree = table (codes "retired") tree (rowid_column (codes "device") ∷ []) (Some 0) (0 ∷ []) [] [] []

-- the taps with their routes, which are its last column
abbrev pub routed_table : ℕ → Table
routed_table tree =
    table (codes "tap2") tree
    (number (codes "device") ∷ number (codes "lane") ∷ number (codes "link") ∷ number (codes "product") ∷ number (codes "token") ∷ number (codes "moment") ∷ number (codes "day") ∷ number (codes "route") ∷ [])
    None (1 ∷ 2 ∷ []) ((1 ∷ 2 ∷ []) ∷ []) (plain ∷ []) []

-- the days from which on all of a device is held
abbrev pub held_table : ℕ → Table
held_table tree = table (codes "held") tree (rowid_column (codes "device") ∷ number (codes "since") ∷ []) (Some 0) (0 ∷ []) [] [] (not_below_0 2 ∷ [])

-- after one, two, three, four, five, six and all seven CREATE TABLE: trees 3, 5 and 8 are the indexes of the tables before them
abbrev pub one_table : Schema
one_table = record { tables = meta_table 0 ∷ []; indexes = []; views = [] }

abbrev pub two_tables : Schema
two_tables = record { tables = meta_table 0 ∷ lane_table 1 ∷ []; indexes = []; views = [] }

abbrev pub three_tables : Schema
three_tables = record { tables = meta_table 0 ∷ lane_table 1 ∷ tap_table 2 ∷ []; indexes = automatics (tap_table 2) 0 3 ((1 ∷ 2 ∷ []) ∷ []); views = [] }

-- of the first format
unfoldable pub first_schema : Schema
first_schema = record {
  tables = meta_table 0 ∷ lane_table 1 ∷ tap_table 2 ∷ stated_table 4 ∷ [];
  indexes = (created three_tables (stated_table 4)).indexes;
  views = [];
}

abbrev pub five_tables : Schema
five_tables = record {
  tables = meta_table 0 ∷ lane_table 1 ∷ tap_table 2 ∷ stated_table 4 ∷ retired_table 6 ∷ [];
  indexes = (created three_tables (stated_table 4)).indexes;
  views = [];
}

-- of the second
unfoldable pub second_schema : Schema
second_schema = five_tables

-- of the third
unfoldable pub third_schema : Schema
third_schema = record {
  tables = meta_table 0 ∷ lane_table 1 ∷ tap_table 2 ∷ stated_table 4 ∷ retired_table 6 ∷ routed_table 7 ∷ [];
  indexes = (created five_tables (routed_table 7)).indexes;
  views = [];
}

unfoldable pub ledger_schema : Schema
ledger_schema = record {
  tables = meta_table 0 ∷ lane_table 1 ∷ tap_table 2 ∷ stated_table 4 ∷ retired_table 6 ∷ routed_table 7 ∷ held_table 9 ∷ [];
  indexes = (created five_tables (routed_table 7)).indexes;
  views = [];
}

-- how many taps of a device are taken, and how many of its days closed
abbrev pub lane_query : Query
lane_query = query 1 (is_given 0 0 ∷ []) (col 1 2 ∷ col 1 3 ∷ []) []

-- the stated count of a day
abbrev pub stated_terms : List Term
stated_terms = is_given 1 0 ∷ is_given 2 1 ∷ []

abbrev pub stated_query : Query
stated_query = query 4 stated_terms (col 1 3 ∷ []) []

-- the taps of a device on a day
abbrev pub day_terms : List Term
day_terms = is_given 1 0 ∷ is_given 7 1 ∷ []

-- the taps of the days from one to another, by day, moment, device and lane number
abbrev pub between_terms : List Term
between_terms = is_from 7 0 ∷ is_upto 7 1 ∷ []

abbrev pub tap_columns : List Term
tap_columns = col 1 1 ∷ col 1 2 ∷ col 1 3 ∷ col 1 4 ∷ col 1 5 ∷ col 1 6 ∷ col 1 7 ∷ col 1 8 ∷ []

abbrev pub between_query : Query
between_query =
    query 7 between_terms tap_columns
    ((col 1 7, ascending Binary) ∷ (col 1 6, ascending Binary) ∷ (col 1 1, ascending Binary) ∷ (col 1 2, ascending Binary) ∷ [])

-- the device's row that is written anew: the parameters are the three given, the rowid that is taken, and the row that couldn't go in
abbrev pub renew_query : Query
renew_query = query 1 (is_given 0 3 ∷ []) (col 1 0 ∷ col 1 0 ∷ lit Null ∷ col 0 6 ∷ col 0 7 ∷ []) []

-- the devices of which a tap is taken or a day closed
abbrev pub begun_terms : List Term
begun_terms = op2 by.Or (is_positive 2) (is_positive 3) ∷ []

-- a device's retired lane
abbrev pub retired_terms : List Term
retired_terms = is_given 0 0 ∷ []

-- the day from which on all of a device is held
abbrev pub since_query : Query
since_query = query 9 (is_given 0 0 ∷ []) (col 1 2 ∷ []) []

-- the device's row that is written anew: the parameters are the two given, the rowid that is taken, and the row that couldn't go in
abbrev pub renew_since_query : Query
renew_since_query = query 9 (is_given 0 2 ∷ []) (col 1 0 ∷ col 1 0 ∷ lit Null ∷ col 0 5 ∷ []) []

-- the devices of which all is held from a later day than the first of all on
abbrev pub later_terms : List Term
later_terms = is_positive 2 ∷ []

-- the first tap of a device of a day or a later one
abbrev pub kept_terms : List Term
kept_terms = is_given 1 0 ∷ is_from 7 1 ∷ []

abbrev pub kept_query : Query
kept_query = least_query 7 kept_terms (col 1 2 ∷ []) 2

-- the taps of a device up to a lane number
abbrev pub cut_terms : List Term
cut_terms = is_given 1 0 ∷ is_upto 2 1 ∷ []

abbrev pub cut_query : Query
cut_query = query 7 cut_terms (col 1 0 ∷ []) []

-- a column is less than a parameter
abbrev pub is_below : ℕ → ℕ → Term
is_below place parameter = op2 (by.Compare cmp.Lt Binary) (col 1 place) (col 0 parameter)

-- the statements of a device before a day
abbrev pub told_terms : List Term
told_terms = is_given 1 0 ∷ is_below 2 1 ∷ []

abbrev pub told_query : Query
told_query = query 4 told_terms (col 1 0 ∷ []) []

-- the taps of an older format, by the numbers of their rows
abbrev pub older_columns : List Term
older_columns = col 1 0 ∷ col 1 1 ∷ col 1 2 ∷ col 1 3 ∷ col 1 4 ∷ col 1 5 ∷ col 1 6 ∷ col 1 7 ∷ []

abbrev pub older_query : Query
older_query = query 2 [] older_columns ((col 1 0, ascending Binary) ∷ [])

-- all rows of their table, to be deleted
abbrev pub clear_query : Query
clear_query = query 2 [] (col 1 0 ∷ []) []
