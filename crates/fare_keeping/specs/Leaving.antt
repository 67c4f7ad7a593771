-- A store that is left alone where something else is written to its database.
use Rattle.std.specs.Prelude.{◌≡◌, ◌≢◌, ◌<◌, ◌⊎◌, ℕ, length}
use Rattle.std.specs.List.{AllByRecursion}
use Rattle.sqlite.specs.Effect.{Database, IsDatabase}
use Rattle.sqlite.specs.Table.{Table}
use Rattle.sqlite.specs.State.{State}
use Rattle.sqlite.specs.Tree.{Trees}
use Rattle.fare_layout.specs.declared.place.TableNumber.{TableNumber}
use Rattle.fare_layout.specs.Growing.{GrowsBy, HasNone}
use Rattle.fare_layout.specs.Places.{all_of}
use Rattle.fare_opening.specs.declared.site.Site.{Site}
use Rattle.fare_opening.specs.Beside.{IsBeside}
use Rattle.fare_opening.specs.Making.{Makes}
use Rattle.fare_opening.specs.Opening.{IsVacant, StandsAt}
use Rattle.fare_opening.specs.Parts.{Parts, OlderParts, parts_of}
use Rattle.fare_opening.specs.Sites.{IsSite, tree_at, rows_at}
use Rattle.fare_kept.specs.Statements.{kept_parts}
use Rattle.fare_keeping.specs.Keeping.{kept_columns}

-- tables that stood stand at the same places, and keep their rows; and names that nothing had nothing has
pub record LeavesSite (p : Parts) (old new : Database) : Type 0 where
  pub there : (w : Site) → IsSite p w → old.schema ≡ w.schema → IsSite p (record w { schema = new.schema })
  pub rows : (w : Site) → IsSite p w → old.schema ≡ w.schema → (k : TableNumber) → k.number < length (all_of w.places) → rows_at w k new.trees ≡ rows_at w k old.trees
  pub free : HasNone p.tables old.schema → HasNone p.tables new.schema

-- so it is of a store, of its newest format or of an older one, and the database keeps its rules
pub record LeavesStore (d : Parts) (old new : Database) : Type 0 where
  pub newest : LeavesSite d old new
  pub olders : AllByRecursion (λ (o : OlderParts). LeavesSite (parts_of o) old new) d.older
  pub database : IsDatabase old → IsDatabase new
  -- its schema is as it was, or got the kept tables
  pub schema : (new.schema ≡ old.schema) ⊎ GrowsBy old.schema kept_parts.tables new.schema

-- these are the trees of such a database
abbrev pub LeavesIn : Parts → Database → Trees → Type 0
LeavesIn d old trees = (db : Database) × LeavesStore d old db × (trees ≡ db.trees)

-- the kept tables don't stand in a database, nor could they be made there, beside this store as it is
abbrev pub HasNoRoom : Parts → State → Type 0
HasNoRoom d old = ((w : Site) → StandsAt kept_parts 0 old w → ¬ IsBeside d old.now.schema w) × (IsVacant kept_parts old → (w : Site) → Makes kept_parts old.now.schema w → ¬ IsBeside d old.now.schema w)

-- TABLES
-- a tree is of none of the kept tables that hold entries
abbrev pub IsOfNoneKept : Site → ℕ → Type 0
IsOfNoneKept w tree = AllByRecursion (λ (t : TableNumber × ℕ). tree ≢ tree_at w t.0) kept_columns

-- these stand there, and the others keep their rows
pub record LeavesOthers (w : Site) (old new : Database) : Type 0 where
  pub schema : new.schema ≡ w.schema
  pub others : AllByRecursion (λ (t : Table). IsOfNoneKept w t.tree → new.trees t.tree ≡ old.trees t.tree) w.schema.tables
  pub database : IsDatabase old → IsDatabase new

-- these are the trees of such a database
abbrev pub LeavesOthersIn : Site → Database → Trees → Type 0
LeavesOthersIn w old trees = (db : Database) × LeavesOthers w old db × (trees ≡ db.trees)
