-- What a schema becomes where a store's tables are made.
use Rattle.std.specs.Prelude.{◌≡◌, ◌+◌, ◌<◌, ◌^◌, ℕ, false, List, [], ◌∷◌, length, None, Result, Ok, Err}
use Rattle.std.specs.List.{AllByRecursion}
use Rattle.sqlite.specs.Change.{created, next_tree}
use Rattle.sqlite_catalog.specs.Change.{is_used}
use Rattle.fare_layout.specs.declared.place.Place.{Place}
use Rattle.sqlite.specs.Compile.{table_defined_by}
use Rattle.sqlite.specs.Does.{lacks_sequence}
use Rattle.sqlite.specs.Schema.{Schema}
use Rattle.sqlite.specs.Table.{Table}
use Rattle.sqlite_resolve.specs.Compile.{compiled}
use Rattle.sqlite_resolve.specs.declared.compiled.Compiled.{Compiled}
use Rattle.sqlite_resolve.specs.declared.error.CompileError.{CompileError}
use Rattle.sqlite_schema.specs.declared.command.Command.TheVariants.{CreateTable}
use Rattle.fare_tables.specs.Making.{Defines}

-- a statement of this length is one CREATE TABLE
pub record IsCreation (size : ℕ) (c : Compiled) : Type 0 where
  pub creates : c.command ≡ CreateTable
  pub silent : c.returning ≡ None
  pub timeless : c.formats ≡ []
  pub begins : c.start ≡ 0
  pub ends : c.end ≡ size

abbrev pub Creates : List ℕ → Result Compiled CompileError → Type 0
Creates sql (Ok c) = IsCreation (length sql) c
Creates sql (Err e) = ⊥

-- under a schema a text makes this table of this name, and there are numbers left for its trees
pub record CanMake (schema : Schema) (name sql : List ℕ) (table : Table) : Type 0 where
  pub creates : Creates sql (compiled schema sql)
  pub defined : table_defined_by sql ≡ Ok table
  pub named : table.name ≡ name
  pub uncounted : lacks_sequence (created schema table) ≡ false
  pub room : next_tree schema + length table.uniques + 1 < 2 ^ 32

-- one text after the other, each with the name of its table
abbrev pub CanMakeAll : Schema → List (List ℕ × List ℕ) → Type 0
CanMakeAll schema [] = Unit {0}
CanMakeAll schema (t ∷ texts) = (table : Table) × CanMake schema t.0 t.1 table × CanMakeAll (created schema table) texts

-- what the schema is then
pub record Grows (schema : Schema) (sql : List ℕ) (next : Schema) : Type 0 where
  pub table : Table
  pub defines : Defines schema sql table
  pub next_is : next ≡ created schema table

abbrev pub GrowsBy : Schema → List (List ℕ × List ℕ) → Schema → Type 0
GrowsBy schema [] last = schema ≡ last
GrowsBy schema (t ∷ texts) last = (next : Schema) × Grows schema t.1 next × GrowsBy next texts last

-- a schema has nothing of these names
abbrev pub HasNone : List (List ℕ × List ℕ) → Schema → Type 0
HasNone texts schema = AllByRecursion (λ (t : List ℕ × List ℕ). is_used schema t.0 ≡ false) texts

-- the places are those from a number on, one after the other
abbrev pub AreFrom : ℕ → List Place → Type 0
AreFrom at [] = Unit {0}
AreFrom at (p ∷ places) = (p.at ≡ at) × AreFrom (at + 1) places

-- the last tables of a schema that this one grew to, in the order in which a store makes them
abbrev pub AreLast : Schema → List Place → Type 0
AreLast schema places = AreFrom (length schema.tables) places

-- places are these, and behind them those of the last tables of a schema that this one grew to
abbrev pub GoOn : Schema → List Place → List Place → Type 0
GoOn schema [] to = AreLast schema to
GoOn schema (p ∷ from) [] = ⊥
GoOn schema (p ∷ from) (q ∷ to) = (p ≡ q) × GoOn schema from to
