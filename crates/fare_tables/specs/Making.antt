-- How tables are made.
use Rattle.std.specs.Prelude.{◌≡◌, ℕ, false, List, [], Result, Ok, Err}
use Rattle.sqlite.specs.Command.TheVariants.{CreateTable}
use Rattle.sqlite.specs.Compile.{table_defined_by}
use Rattle.sqlite.specs.Change.{created, next_tree, KeepsRows}
use Rattle.sqlite.specs.Does.{lacks_sequence}
use Rattle.sqlite.specs.Effect.{Database}
use Rattle.sqlite.specs.Given.{IsPlain}
use Rattle.sqlite.specs.Listing.{understood}
use Rattle.sqlite.specs.Schema.{Schema}
use Rattle.sqlite.specs.State.{text_of}
use Rattle.sqlite.specs.Table.{Table}
use Rattle.sqlite_resolve.specs.declared.compiled.Compiled.{Compiled}
use Rattle.sqlite_resolve.specs.declared.error.CompileError.{CompileError}

abbrev pub no_schema : Schema
no_schema = record { tables = []; indexes = []; views = [] }

-- a text that is one CREATE TABLE from end to end
abbrev pub IsWhole : List ℕ → Result Compiled CompileError → Type 0
IsWhole sql (Ok c) = (c.command ≡ CreateTable) × (text_of sql c ≡ sql)
IsWhole sql (Err e) = ⊥

-- under a schema the text makes this table
pub record Defines (schema : Schema) (sql : List ℕ) (table : Table) : Type 0 where
  pub plain : IsPlain (understood schema sql)
  pub whole : IsWhole sql (understood schema sql)
  pub defined : table_defined_by sql ≡ Ok table
  pub uncounted : lacks_sequence (created schema table) ≡ false

-- the table is there with no row, and the others keep theirs
pub record Made (old new : Database) (table : Table) : Type 0 where
  pub schema : new.schema ≡ created old.schema table
  pub empty : new.trees (next_tree old.schema) ≡ []
  pub others : KeepsRows old.schema.tables old.trees new.trees
