-- What a raise does to the two tables between which rows move.
use Rattle.std.specs.Prelude.{◌≡◌, ◌≢◌, ◌++◌, ℕ, suc, List, [], Option, Some, None}
use Rattle.std.specs.List.{AllByRecursion}
use Rattle.sqlite.specs.Effect.{Database, IsDatabase}
use Rattle.sqlite.specs.Table.{Table}
use Rattle.sqlite_value.specs.Order.{Row}
use Rattle.fare_layout.specs.declared.place.TableNumber.{TableNumber}
use Rattle.fare_opening.specs.declared.site.Site.{Site}
use Rattle.fare_opening.specs.Moving.{MovingParts, columns_of, AreNumbered, copies}
use Rattle.fare_opening.specs.Parts.{OlderParts}
use Rattle.fare_opening.specs.Sites.{tree_at, rows_at}

-- each table but one keeps its rows
abbrev pub KeepsAllBut : ℕ → Site → Database → Database → Type 0
KeepsAllBut tree w old new = AllByRecursion (λ (t : Table). t.tree ≢ tree → new.trees t.tree ≡ old.trees t.tree) w.schema.tables

-- copies of rows were put behind those that a table had
pub record Fills (w : Site) (k : TableNumber) (columns : ℕ) (rows : List Row) (old new : Database) : Type 0 where
  pub schema : new.schema ≡ w.schema
  pub others : KeepsAllBut (tree_at w k) w old new
  pub filled : (done : List Row) → AreNumbered (suc columns) (done ++ copies rows) → rows_at w k old.trees ≡ done → rows_at w k new.trees ≡ done ++ copies rows
  pub database : IsDatabase old → IsDatabase new

-- a table lost its rows
pub record Clears (w : Site) (k : TableNumber) (columns : ℕ) (old new : Database) : Type 0 where
  pub schema : new.schema ≡ w.schema
  pub others : KeepsAllBut (tree_at w k) w old new
  pub cleared : AreNumbered columns (rows_at w k old.trees) → rows_at w k new.trees ≡ []
  pub database : IsDatabase old → IsDatabase new

-- these rows went to a table that had none, and the other table lost its own
pub record Moves (o : OlderParts) (w : Site) (rows : List Row) (old new : Database) (m : MovingParts) : Type 0 where
  pub schema : new.schema ≡ w.schema
  pub others : AllByRecursion (λ (t : Table). t.tree ≢ tree_at w m.to → t.tree ≢ tree_at w m.from → new.trees t.tree ≡ old.trees t.tree) w.schema.tables
  pub filled : AreNumbered (columns_of o.own m.from) rows → rows_at w m.to old.trees ≡ [] → rows_at w m.to new.trees ≡ copies rows
  pub cleared : AreNumbered (columns_of o.own m.from) (rows_at w m.from old.trees) → rows_at w m.from new.trees ≡ []

-- so it is where rows move at all
abbrev pub MovesAny : OlderParts → Site → List Row → Database → Database → Option MovingParts → Type 0
MovesAny o w rows old new None = new ≡ old
MovesAny o w rows old new (Some m) = Moves o w rows old new m
