-- Rows that a raise moves from one table to another.
use Rattle.std.specs.Prelude.{◌≡◌, ◌+◌, ◌++◌, ℕ, zero, suc, List, [], ◌∷◌, map, length, slice_get, Option, Some, None}
use Rattle.sqlite.specs.Collation.TheVariants.{Binary}
use Rattle.sqlite.specs.Command.TheVariants.{Delete, Insert, Select}
use Rattle.sqlite.specs.Kind.TheVariants.{Integer}
use Rattle.sqlite.specs.Query.{Query}
use Rattle.sqlite.specs.Schema.{Schema}
use Rattle.sqlite.specs.Source.TheVariants.{Values}
use Rattle.sqlite.specs.Table.{Table}
use Rattle.sqlite.specs.Term.{Term, col}
use Rattle.sqlite_schema.specs.declared.command.Command.{Command}
use Rattle.sqlite_schema.specs.declared.schema.Column.{Column}
use Rattle.sqlite_value.specs.Keys.{ascending}
use Rattle.sqlite_value.specs.Order.{Row, column}
use Rattle.sqlite_value.specs.declared.keys.Order.{Order}
use Rattle.fare_tables.specs.Cells.{nat_in, int, AreRows}
use Rattle.fare_tables.specs.Queries.{query, count_query, table}
use Rattle.fare_layout.specs.declared.place.TableNumber.{TableNumber}
use Rattle.fare_opening.specs.declared.moving.Moving.{Moving}

-- the rows of a table go to another: what reads them, what writes one, and what removes them
pub record MovingParts : Type 0 where
  pub from : TableNumber
  pub to : TableNumber
  pub read : List ℕ
  pub put : List ℕ
  pub clear : List ℕ

-- and it is told so
abbrev pub moving_told : Moving → MovingParts
moving_told m = record { from = m.from; to = m.to; read = m.read.now; put = m.put.now; clear = m.clear.now }

-- TEXTS
-- so many columns, or parameters, from a place on
abbrev pub cells_from : ℕ → ℕ → ℕ → List Term
cells_from slot at zero = []
cells_from slot at (suc n) = col slot at ∷ cells_from slot (at + 1) n

-- all rows, by their rowids, with so many cells
abbrev pub rows_query : ℕ → ℕ → Query
rows_query width tree = query tree [] (cells_from 1 0 width) ((col 1 0, ascending Binary) ∷ [])

abbrev pub reads_rows : ℕ → List (List ℕ) → ℕ → Command
reads_rows width names tree = Select (record { lets = []; body = rows_query width tree }) names

-- a row with so many cells
abbrev pub puts_cells : ℕ → ℕ → Command
puts_cells width at = Insert at (Values (cells_from 0 0 width) width)

-- no row stays
abbrev pub ids_query : ℕ → Query
ids_query tree = query tree [] (col 1 0 ∷ []) []

abbrev pub clears_rows : ℕ → ℕ → Command
clears_rows at tree = Delete at (record { lets = []; body = ids_query tree })

-- how many rows there are
abbrev pub counts_rows : List (List ℕ) → ℕ → Command
counts_rows names tree = Select (record { lets = []; body = count_query tree [] }) names

-- TABLES
abbrev pub columns_in : Option Table → ℕ
columns_in None = 0
columns_in (Some t) = length t.columns

-- how many columns a table of a schema has
abbrev pub columns_of : Schema → TableNumber → ℕ
columns_of own k = columns_in (slice_get own.tables k.number)

-- so many columns, each of integers
abbrev pub AreIntegers : ℕ → List Column → Type 0
AreIntegers zero [] = Unit {0}
AreIntegers zero (c ∷ more) = ⊥
AreIntegers (suc n) [] = ⊥
AreIntegers (suc n) (c ∷ more) = (c.kind ≡ Integer) × AreIntegers n more

-- a table that refers to no other, has no default that reads the time and doesn't count its rows
pub record Shape : Type 0 where
  pub name : List ℕ
  pub columns : List Column
  pub key : Option ℕ
  pub primary : List ℕ
  pub uniques : List (List ℕ)
  pub orders : List Order
  pub checks : List Term

abbrev pub shaped : Shape → ℕ → Table
shaped s tree = table s.name tree s.columns s.key s.primary s.uniques s.orders s.checks

-- ROWS
-- a row of so many natural numbers
abbrev pub IsNumbered : ℕ → Row → Type 0
IsNumbered zero [] = Unit {0}
IsNumbered zero (v ∷ row) = ⊥
IsNumbered (suc n) [] = ⊥
IsNumbered (suc n) (v ∷ row) = (v ≡ int (nat_in v)) × IsNumbered n row

-- rows of so many columns, which stand behind the rowid, each a natural number, in the order of their rowids
abbrev pub AreNumbered : ℕ → List Row → Type 0
AreNumbered columns rows = AreRows (IsNumbered (suc columns)) rows

-- a row with a 0 behind it
abbrev pub copy_of : Row → Row
copy_of row = row ++ int 0 ∷ []

-- what the second table gets of the rows of the first
abbrev pub copies : List Row → List Row
copies rows = map copy_of rows

-- the answer of a count is 0
abbrev pub CountsNone : List Row → Type 0
CountsNone [] = ⊥
CountsNone (row ∷ more) = column row 0 ≡ int 0
