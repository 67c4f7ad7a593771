-- An empty store.
use Rattle.std.specs.Prelude.{◌≡◌, ◌≢◌, ◌≤◌, ℕ, [], ◌∷◌, length, slice_get, Some}
use Rattle.std.specs.List.{AllByRecursion}
use Rattle.sqlite.specs.Change.{KeepsRows}
use Rattle.sqlite.specs.Effect.{Database, IsDatabase}
use Rattle.sqlite.specs.Schema.{Schema}
use Rattle.sqlite.specs.Table.{Table}
use Rattle.sqlite.specs.Tree.{Trees}
use Rattle.fare_tables.specs.Cells.{int}
use Rattle.fare_opening.specs.Numbers.{Meta}
use Rattle.fare_layout.specs.Growing.{GrowsBy, AreLast}
use Rattle.fare_layout.specs.Places.{all_of}
use Rattle.fare_opening.specs.declared.site.Site.{Site}
use Rattle.fare_opening.specs.Parts.{Parts}
use Rattle.fare_opening.specs.Sites.{IsSite, tree_at, rows_at, IsBare}

-- where the tables stand once they are made in a schema: after those that are there
pub record Makes (d : Parts) (schema : Schema) (w : Site) : Type 0 where
  pub site : IsSite d w
  pub grows : GrowsBy schema d.tables w.schema
  pub last : AreLast schema (all_of w.places)

-- the tables can be made in a schema
pub record MayGrow (d : Parts) (schema : Schema) : Type 0 where
  pub site : Site
  pub makes : Makes d schema site

-- the tables that were there keep their rows
abbrev pub KeepsOthers : Database → Database → Type 0
KeepsOthers old new = KeepsRows old.schema.tables old.trees new.trees

-- each table but meta keeps its rows
abbrev pub KeepsAllButMeta : Site → Database → Database → Type 0
KeepsAllButMeta w old new = AllByRecursion (λ (t : Table). t.tree ≢ tree_at w Meta → new.trees t.tree ≡ old.trees t.tree) w.schema.tables

-- a database got this schema by tables that were made: those have no row, and the others keep theirs
pub record HasGrown (grown : Schema) (old new : Database) : Type 0 where
  pub schema : new.schema ≡ grown
  pub others : KeepsOthers old new
  pub empty : (at : ℕ) (table : Table) → length old.schema.tables ≤ at → slice_get grown.tables at ≡ Some table → new.trees table.tree ≡ []

-- the tables with no row
pub record IsBlank (w : Site) (db : Database) : Type 0 where
  pub schema : db.schema ≡ w.schema
  pub meta : rows_at w Meta db.trees ≡ []
  pub bare : IsBare w db.trees

-- with the one row of meta: the format, and the owner; and the database keeps its rules
pub record IsNew (d : Parts) (owner : ℕ) (w : Site) (db : Database) : Type 0 where
  pub schema : db.schema ≡ w.schema
  pub meta : rows_at w Meta db.trees ≡ (int 1 ∷ int d.format ∷ int owner ∷ []) ∷ []
  pub bare : IsBare w db.trees
  pub database : IsDatabase db

-- the database is an empty store now, wherever the tables stand that were made, beside what was there
pub record MakesNew (d : Parts) (owner : ℕ) (old new : Database) : Type 0 where
  pub each : (w : Site) → Makes d old.schema w → IsNew d owner w new
  pub others : KeepsOthers old new

-- these are the trees of one
abbrev pub MadeFrom : Parts → ℕ → Database → Trees → Type 0
MadeFrom d owner old trees = (db : Database) × MakesNew d owner old db × (trees ≡ db.trees)

-- the trees of an empty store, whose tables were made in this schema
abbrev pub IsMade : Parts → ℕ → Schema → Trees → Type 0
IsMade d owner schema trees = (w : Site) × Makes d schema w × (db : Database) × IsNew d owner w db × (trees ≡ db.trees)
