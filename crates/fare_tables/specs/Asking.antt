-- What a connection is between two calls, and what a statement leaves of it.
use Rattle.std.specs.Prelude.{◌≡◌, ◌⊎◌, ℕ, Bool, true, false, List, Result, Ok, Err, IsTrue}
use Rattle.sqlite.specs.Effect.{is_query}
use Rattle.sqlite.specs.Given.{IsPlain}
use Rattle.sqlite.specs.Listing.{understood}
use Rattle.sqlite.specs.Schema.{Schema}
use Rattle.sqlite.specs.State.{State, HasCleanDisk, IsRolledBack, IsUnchanged}
use Rattle.sqlite.specs.declared.error.Error.{Error}
use Rattle.sqlite.specs.declared.error.Error.TheVariants.{SqliteFailure}
use Rattle.sqlite.specs.declared.error.ErrorCode.TheVariants as code
use Rattle.sqlite_resolve.specs.declared.compiled.Compiled.{Compiled}
use Rattle.sqlite_resolve.specs.declared.error.CompileError.{CompileError}
use Rattle.fare_store.specs.declared.fault.Fault.{Fault}
use Rattle.fare_store.specs.declared.fault.Fault.TheVariants as fault

-- the disk has kept what was committed, and no failure has shut the connection
abbrev pub IsLive : State → Type 0
IsLive s = HasCleanDisk s × IsTrue s.is_open

-- it is open, if its disk has kept what was committed
abbrev pub IsUp : State → Type 0
IsUp s = HasCleanDisk s → IsTrue s.is_open

-- the rows are as before, those of the last commit too
abbrev pub SameRows : State → State → Type 0
SameRows old new = (new.now ≡ old.now) × (new.committed ≡ old.committed)

-- between two calls, over tables of this schema, whatever rows they hold
pub record IsAtRest (schema : Schema) (s : State) : Type 0 where
  pub settled : s.now ≡ s.committed
  pub schema_is : s.now.schema ≡ schema

-- nothing was committed, and the connection was open if it is
abbrev pub Inside : State → State → Type 0
Inside old new = IsTrue new.is_open → IsTrue old.is_open × (new.committed ≡ old.committed)

-- no change of a transaction was committed, or an earlier failure had ended it
abbrev pub Undoes : State → State → Type 0
Undoes old new = IsRolledBack old new ⊎ ((old.in_transaction ≡ false) × IsUnchanged old new)

abbrev pub is_select : Result Compiled CompileError → Bool
is_select (Ok c) = is_query c.command
is_select (Err e) = false

-- a text that only reads, under a schema
abbrev pub Reads : Schema → List ℕ → Type 0
Reads schema sql = IsPlain (understood schema sql) × (is_select (understood schema sql) ≡ true)

-- want of memory is told apart from all other failures
abbrev pub fault_named : Error → Fault
fault_named (SqliteFailure code.OutOfMemory) = fault.Memory
fault_named _ = fault.Store
