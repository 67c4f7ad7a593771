-- A store of an older format, and what an open makes of it.
use Rattle.std.specs.Prelude.{◌≡◌, ◌≢◌, ◌≤◌, ◌<◌, ℕ, List, [], length, Option, Some, None, option_map, IfSome}
use Rattle.std.specs.List.{AllByRecursion}
use Rattle.sqlite.specs.Effect.{Database, IsDatabase}
use Rattle.sqlite.specs.Schema.{Schema}
use Rattle.sqlite.specs.State.{State}
use Rattle.sqlite.specs.Table.{Table}
use Rattle.sqlite.specs.Tree.{Trees}
use Rattle.sqlite_rules.specs.Lists.{Has}
use Rattle.sqlite_value.specs.Order.{Row}
use Rattle.fare_layout.specs.declared.place.TableNumber.{TableNumber}
use Rattle.fare_layout.specs.Growing.{GrowsBy, GoOn, HasNone}
use Rattle.fare_layout.specs.Places.{all_of}
use Rattle.fare_opening.specs.declared.design.Older.{Older}
use Rattle.fare_opening.specs.declared.site.Site.{Site}
use Rattle.fare_opening.specs.MetaRow.{IsMeta}
use Rattle.fare_opening.specs.Moving.{MovingParts, columns_of, AreNumbered, copies}
use Rattle.fare_opening.specs.Numbers.{Meta}
use Rattle.fare_opening.specs.Parts.{Parts, OlderParts, IsOlder, IsTold, parts_of}
use Rattle.fare_opening.specs.Making.{KeepsAllButMeta}
use Rattle.fare_opening.specs.Sites.{IsSite, HasNoRow, IsEmptied, tree_at, rows_at}

-- the tables of an older format stand in a schema, nothing has a name of those that it lacks, and once these are made,
-- past all that are there, the newest's tables stand there
pub record Rises (d : Parts) (o : OlderParts) (schema : Schema) (v w : Site) : Type 0 where
  pub from : IsSite (parts_of o) v
  pub has : schema ≡ v.schema
  pub free : HasNone o.missing schema
  pub site : IsSite d w
  pub grows : GrowsBy schema o.missing w.schema
  pub places : GoOn schema (all_of v.places) (all_of w.places)

-- a database has them, with the row of meta of this owner, and the one that isn't used has no row
pub record CanRise (d : Parts) (o : OlderParts) (owner : ℕ) (db : Database) (v w : Site) : Type 0 where
  pub rises : Rises d o db.schema v w
  pub meta : IsMeta o.format owner (rows_at v Meta db.trees)
  pub unused : IsEmptied (parts_of o) v db.trees

-- so it is where the tables of a format that is told so stand
abbrev pub IsAnOwners : Older → ℕ → Site → Trees → Type 0
IsAnOwners told owner v trees = IsMeta told.format owner (rows_at v Meta trees) × HasNoRow (option_map (λ u. (u.0, u.1.now)) told.unused) v trees

-- it is this owner's store of one of the older formats
abbrev pub IsOlderStore : Parts → ℕ → State → Type 0
IsOlderStore d owner s = (o : OlderParts) × Has d.older o × (v : Site) × (w : Site) × CanRise d o owner s.now v w

-- the format in the row of meta is the newest one now, and each other table keeps its rows
pub record SetsMeta (d : Parts) (owner : ℕ) (w : Site) (old new : Database) : Type 0 where
  pub schema : new.schema ≡ w.schema
  pub meta : IsMeta d.format owner (rows_at w Meta new.trees)
  pub others : KeepsAllButMeta w old new
  pub database : IsDatabase new

-- no rows move from a table, by its tree
abbrev pub IsKept : Option MovingParts → Site → ℕ → Type 0
IsKept None w tree = Unit {0}
IsKept (Some m) w tree = tree ≢ tree_at w m.from

-- none move to it, by its number
abbrev pub IsNotFilled : Option MovingParts → TableNumber → Type 0
IsNotFilled None k = Unit {0}
IsNotFilled (Some m) k = k.number ≢ m.to.number

-- where the rows of a table are of its width, numbered and in order, it has none now, and the other table has a copy of
-- each
pub record HasMoved (o : OlderParts) (w : Site) (old new : Database) (m : MovingParts) : Type 0 where
  pub emptied : AreNumbered (columns_of o.own m.from) (rows_at w m.from old.trees) → rows_at w m.from new.trees ≡ []
  pub copied : AreNumbered (columns_of o.own m.from) (rows_at w m.from old.trees) → rows_at w m.to new.trees ≡ copies (rows_at w m.from old.trees)

-- a store of the newest format was made of an older one: each table but meta that was there keeps its rows, and those
-- that it lacked have none, but for the two between which rows move; and the database keeps its rules
pub record IsRaised (d : Parts) (o : OlderParts) (owner : ℕ) (w : Site) (old new : Database) : Type 0 where
  pub schema : new.schema ≡ w.schema
  pub meta : IsMeta d.format owner (rows_at w Meta new.trees)
  pub others : AllByRecursion (λ (t : Table). t.tree ≢ tree_at w Meta → IsKept o.moving w t.tree → new.trees t.tree ≡ old.trees t.tree) old.schema.tables
  pub empty : (k : TableNumber) → length o.tables ≤ k.number → k.number < length (all_of w.places) → IsNotFilled o.moving k → rows_at w k new.trees ≡ []
  pub moved : IfSome o.moving (HasMoved o w old new)
  pub database : IsDatabase new

-- the rows that a raise is to move were read, where they are of the table's width, numbered and in order
abbrev pub AreRead : OlderParts → Site → Database → List Row → Type 0
AreRead o v db rows = IfSome o.moving (λ m. AreNumbered (columns_of o.own m.from) (rows_at v m.from db.trees) → rows ≡ rows_at v m.from db.trees)

-- a store of a format that is told so can be raised, and these are the rows to move
pub record IsRising (d : Parts) (told : Older) (db : Database) (rows : List Row) : Type 0 where
  pub o : OlderParts
  pub older : IsOlder d o
  pub is_told : IsTold told o
  pub owner : ℕ
  pub from : Site
  pub to : Site
  pub can : CanRise d o owner db from to
  pub read : (o : OlderParts) → IsOlder d o → IsTold told o → (v : Site) → IsSite (parts_of o) v → db.schema ≡ v.schema → AreRead o v db rows

-- and was raised, whatever format it is that is told so, whoever's store, and wherever its tables stand
pub record RaisesAll (d : Parts) (told : Older) (old new : Database) : Type 0 where
  pub each : (o : OlderParts) → IsOlder d o → IsTold told o → (owner : ℕ) (v w : Site) → CanRise d o owner old v w → IsRaised d o owner w old new

-- these are the trees of one
abbrev pub RaisesFrom : Parts → Older → Database → Trees → Type 0
RaisesFrom d told old trees = (db : Database) × RaisesAll d told old db × (trees ≡ db.trees)

-- a database was a store of an older format, and is one of the newest
abbrev pub Raises : Parts → OlderParts → ℕ → Database → Database → Site → Type 0
Raises d o owner old new w = (v : Site) × CanRise d o owner old v w × IsRaised d o owner w old new

-- these are the trees of one
abbrev pub RaisesTo : Parts → OlderParts → ℕ → Database → Trees → Type 0
RaisesTo d o owner old trees = (w : Site) × (db : Database) × Raises d o owner old db w × (trees ≡ db.trees)

-- what an open may commit where a store is of an older format
abbrev pub MayRaise : Parts → ℕ → State → Trees → Type 0
MayRaise d owner old trees = (o : OlderParts) × Has d.older o × RaisesTo d o owner old.now trees

-- a store of an older format is one of the newest now
abbrev pub WasRaised : Parts → ℕ → State → State → Site → Type 0
WasRaised d owner old new w = (o : OlderParts) × Has d.older o × Raises d o owner old.now new.now w × (new.now ≡ new.committed)
