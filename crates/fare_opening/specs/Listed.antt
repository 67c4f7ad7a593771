-- A table of natural numbers as a list of rows: the texts that read it, put a row behind its last and remove all.
use Rattle.std.specs.Prelude.{◌≡◌, ◌<◌, ◌++◌, ℕ, suc, List, length, slice_get, Some}
use Rattle.sqlite.specs.Effect.{Database, IsDatabase}
use Rattle.sqlite_rules.specs.Lists.{Has}
use Rattle.sqlite_value.specs.Order.{Row}
use Rattle.fare_layout.specs.Commands.{IsMeant}
use Rattle.fare_layout.specs.declared.place.TableNumber.{TableNumber}
use Rattle.fare_opening.specs.declared.site.Site.{Site}
use Rattle.fare_opening.specs.Moves.{KeepsAllBut}
use Rattle.fare_opening.specs.Moving.{reads_rows, puts_cells, clears_rows, AreIntegers, Shape, shaped, AreNumbered}
use Rattle.fare_opening.specs.Parts.{Parts}
use Rattle.fare_opening.specs.Sites.{tree_at, rows_at}

-- a text of a store reads a table of so many columns: each row's rowid, and its cells, in the order of the rowids
pub record IsReading (p : Parts) (k : TableNumber) (columns : ℕ) (text : List ℕ) : Type 0 where
  pub within : k.number < length p.own.tables
  pub has : Has p.texts (k, text)
  pub names : List (List ℕ)
  pub tree : ℕ
  pub meant : IsMeant p.own text (reads_rows (suc columns) names tree)

-- one puts a row into a table of so many columns, all of integers: its rowid, and its cells
pub record IsPutting (p : Parts) (k : TableNumber) (columns : ℕ) (text : List ℕ) : Type 0 where
  pub has : Has p.texts (k, text)
  pub at : ℕ
  pub meant : IsMeant p.own text (puts_cells (suc columns) at)
  pub shape : Shape
  pub tree : ℕ
  pub shape_is : slice_get p.own.tables k.number ≡ Some (shaped shape tree)
  pub integers : AreIntegers columns shape.columns

-- one removes all rows of a table
pub record IsClearing (p : Parts) (k : TableNumber) (text : List ℕ) : Type 0 where
  pub within : k.number < length p.own.tables
  pub has : Has p.texts (k, text)
  pub at : ℕ
  pub tree : ℕ
  pub meant : IsMeant p.own text (clears_rows at tree)

-- rows were put behind those that a table had, where that keeps the order of their rowids
pub record Puts (w : Site) (k : TableNumber) (columns : ℕ) (rows : List Row) (old new : Database) : Type 0 where
  pub schema : new.schema ≡ w.schema
  pub others : KeepsAllBut (tree_at w k) w old new
  pub put : (done : List Row) → AreNumbered columns (done ++ rows) → rows_at w k old.trees ≡ done → rows_at w k new.trees ≡ done ++ rows
  pub database : IsDatabase old → IsDatabase new
