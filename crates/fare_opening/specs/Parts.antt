-- What a store in tables is made of.
use Rattle.std.specs.Prelude.{◌≡◌, ◌<◌, ◌≤◌, ◌++◌, ℕ, suc, codes, List, [], ◌∷◌, map, length, slice_get, Option, Some, None, option_map, IfOk, IfSome}
use Rattle.std.specs.List.{AllByRecursion}
use Rattle.sqlite.specs.declared.types.Value.TheVariants.{Null}
use Rattle.sqlite.specs.Command.TheVariants.{Insert, Select, Update}
use Rattle.sqlite.specs.Compile.{table_defined_by}
use Rattle.sqlite.specs.Query.{Query}
use Rattle.sqlite.specs.Schema.{Schema}
use Rattle.sqlite.specs.Source.TheVariants.{Values}
use Rattle.sqlite.specs.Table.{Table}
use Rattle.sqlite.specs.Term.{lit, col}
use Rattle.sqlite_rules.specs.Lists.{Has}
use Rattle.sqlite_schema.specs.declared.command.Command.{Command}
use Rattle.fare_tables.specs.Making.{no_schema}
use Rattle.fare_tables.specs.Queries.{number, query, table}
use Rattle.fare_layout.specs.declared.place.TableNumber.{TableNumber}
use Rattle.fare_opening.specs.declared.design.MetaTexts.{MetaTexts}
use Rattle.fare_opening.specs.declared.design.Older.{Older}
use Rattle.fare_opening.specs.Moving.{MovingParts, moving_told, reads_rows, puts_cells, clears_rows, counts_rows, columns_of, AreIntegers, Shape, shaped}
use Rattle.fare_opening.specs.Numbers.{Meta}
use Rattle.fare_layout.specs.declared.place.Places.{Places}
use Rattle.fare_layout.specs.Commands.{IsMeant}
use Rattle.fare_layout.specs.Growing.{CanMakeAll, GrowsBy, AreLast}
use Rattle.fare_layout.specs.Layouts.{Fits, AreUnderstood}
use Rattle.fare_layout.specs.Places.{all_of}
use Rattle.fare_layout.specs.Schemas.{IsSimpleTable}

-- the table that says whose tables these are: its name with what makes it, and what reads its rows, writes one and sets
-- the format of each
pub record MetaParts : Type 0 where
  pub table : List ℕ × List ℕ
  pub read : List ℕ
  pub put : List ℕ
  pub set : List ℕ

-- and it is told so
abbrev pub meta_told : MetaTexts → MetaParts
meta_told m = record { table = (m.table.0.now, m.table.1.now); read = m.read.now; put = m.put.now; set = m.set.now }

-- an older format
pub record OlderParts : Type 0 where
  pub own : Schema
  pub meta : MetaParts
  pub tables : List (List ℕ × List ℕ)
  pub texts : List (TableNumber × List ℕ)
  pub format : ℕ
  -- what makes the tables that it lacks
  pub missing : List (List ℕ × List ℕ)
  -- how the rows of one of its tables move to one of those
  pub moving : Option MovingParts
  -- a table that holds no row, and what counts its rows
  pub unused : Option (TableNumber × List ℕ)

pub record Parts : Type 0 where
  -- its schema in a database of its own
  pub own : Schema
  -- the first of its tables
  pub meta : MetaParts
  -- what makes its tables, each with its name
  pub tables : List (List ℕ × List ℕ)
  -- what is asked of them and written to them, each with its table
  pub texts : List (TableNumber × List ℕ)
  -- its format
  pub format : ℕ
  -- those from which it is raised
  pub older : List OlderParts
  -- a table that holds no row, and what counts its rows
  pub unused : Option (TableNumber × List ℕ)

-- what a store of an older format is made of
abbrev pub parts_of : OlderParts → Parts
parts_of o = record { own = o.own; meta = o.meta; tables = o.tables; texts = o.texts; format = o.format; older = []; unused = o.unused }

-- META: the table that says whose tables these are, and of what format, by its name
abbrev pub meta_named : List ℕ → ℕ → Table
meta_named name tree = table name tree (number (codes "format") ∷ number (codes "owner") ∷ []) None [] [] [] []

-- the one of a store that is the first in its database
abbrev pub meta_name : List ℕ
meta_name = codes "meta"

abbrev pub meta_text : List ℕ
meta_text = codes "CREATE TABLE meta (format INTEGER NOT NULL, owner INTEGER NOT NULL) STRICT"

abbrev pub read_meta : List ℕ
read_meta = codes "SELECT rowid, format, owner FROM meta"

abbrev pub put_meta : List ℕ
put_meta = codes "INSERT INTO meta (format, owner) VALUES (?1, ?2)"

abbrev pub set_meta : List ℕ
set_meta = codes "UPDATE meta SET format = ?1"

abbrev pub plain_meta : MetaParts
plain_meta = record { table = (meta_name, meta_text); read = read_meta; put = put_meta; set = set_meta }

abbrev pub meta_query : ℕ → Query
meta_query tree = query tree [] (col 1 0 ∷ col 1 1 ∷ col 1 2 ∷ []) []

-- its rows, read
abbrev pub reads_meta : ℕ → Command
reads_meta tree = Select (record { lets = []; body = meta_query tree }) (codes "rowid" ∷ codes "format" ∷ codes "owner" ∷ [])

-- a row, written to the table at this place
abbrev pub puts_meta : ℕ → Command
puts_meta at = Insert at (Values (lit Null ∷ col 0 0 ∷ col 0 1 ∷ []) 3)

-- the format in each row, set: a row's rowid, and the row that takes its place
abbrev pub set_query : ℕ → Query
set_query tree = query tree [] (col 1 0 ∷ col 1 0 ∷ col 0 0 ∷ col 1 2 ∷ []) []

abbrev pub sets_meta : ℕ → ℕ → Command
sets_meta at tree = Update at (record { lets = []; body = set_query tree })

-- a text makes a table with few keys, so that there are numbers for their trees
abbrev pub HasFewKeys : List ℕ → Type 0
HasFewKeys sql = IfOk (table_defined_by sql) (λ table. length table.uniques < 1000)

-- a text counts the rows of a table
pub record IsCounted (d : Parts) (u : TableNumber × List ℕ) : Type 0 where
  pub past : 0 < u.0.number
  pub within : u.0.number < length d.own.tables
  pub counts : Has d.texts u
  pub names : List (List ℕ)
  pub tree : ℕ
  pub counts_meant : IsMeant d.own u.1 (counts_rows names tree)

-- its tables can be made, its statements mean what they should where they are, and none needs another table
pub record IsDesign (d : Parts) : Type 0 where
  pub rest : List (List ℕ × List ℕ)
  pub tables_are : d.tables ≡ d.meta.table ∷ rest
  pub meta_is : slice_get d.own.tables 0 ≡ Some (meta_named d.meta.table.0 0)
  pub many : length d.own.tables ≡ length d.tables
  pub can : CanMakeAll no_schema d.tables
  pub grows : GrowsBy no_schema d.tables d.own
  pub few : AllByRecursion (λ (t : List ℕ × List ℕ). HasFewKeys t.1) d.tables
  pub simple : AllByRecursion IsSimpleTable d.own.tables
  pub understood : AreUnderstood d.own d.texts
  pub home : Places
  pub at_home : Fits d.own d.texts d.own home
  pub last : AreLast no_schema (all_of home)
  pub asks : Has d.texts (Meta, d.meta.read)
  pub asks_meant : IsMeant d.own d.meta.read (reads_meta 0)
  pub puts : Has d.texts (Meta, d.meta.put)
  pub puts_meant : IsMeant d.own d.meta.put (puts_meta 0)
  pub sets : Has d.texts (Meta, d.meta.set)
  pub sets_meant : IsMeant d.own d.meta.set (sets_meta 0 0)
  pub counted : IfSome d.unused (IsCounted d)

-- Rows move from a table of an older format, which isn't meta, to one that it lacks and that has one column more, all
-- of integers. The older format's text reads them, and the newest's write one and remove them.
pub record IsMoving (d : Parts) (o : OlderParts) (m : MovingParts) : Type 0 where
  pub past : 0 < m.from.number
  pub has : m.from.number < length o.tables
  pub lacks : length o.tables ≤ m.to.number
  -- the table that gets them
  pub shape : Shape
  pub tree : ℕ
  pub shape_is : slice_get d.own.tables m.to.number ≡ Some (shaped shape tree)
  pub integers : AreIntegers (suc (columns_of o.own m.from)) shape.columns
  -- where the texts are for
  pub names : List (List ℕ)
  pub read_tree : ℕ
  pub put_at : ℕ
  pub clear_at : ℕ
  pub clear_tree : ℕ
  pub reads : Has o.texts (m.from, m.read)
  pub reads_meant : IsMeant o.own m.read (reads_rows (suc (columns_of o.own m.from)) names read_tree)
  pub puts : Has d.texts (m.to, m.put)
  pub puts_meant : IsMeant d.own m.put (puts_cells (suc (suc (columns_of o.own m.from))) put_at)
  pub clears : Has d.texts (m.from, m.clear)
  pub clears_meant : IsMeant d.own m.clear (clears_rows clear_at clear_tree)

-- an older format is a store's too, and the newest has its tables first, and then those that it lacks
pub record IsOlder (d : Parts) (o : OlderParts) : Type 0 where
  pub design : IsDesign (parts_of o)
  pub tables_are : d.tables ≡ o.tables ++ o.missing
  pub moves : IfSome o.moving (IsMoving d o)

-- and it is told so
pub record IsTold (told : Older) (o : OlderParts) : Type 0 where
  pub meta : meta_told told.meta ≡ o.meta
  pub format : told.format ≡ o.format
  pub tables : map (λ t. (t.0.now, t.1.now)) told.tables.now ≡ o.tables
  pub missing : map (λ t. (t.0.now, t.1.now)) told.missing.now ≡ o.missing
  pub texts : map (λ t. (t.0, t.1.now)) told.texts.now ≡ o.texts
  pub moving : option_map moving_told told.moving ≡ o.moving
  pub unused : option_map (λ u. (u.0, u.1.now)) told.unused ≡ o.unused
