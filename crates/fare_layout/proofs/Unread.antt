-- What is read of a text: one that is no statement means nothing.
use Rattle.std.proofs.Common.{◌≡◌, ◌≢◌, None, Ok, Err, Result, refl}
use Rattle.sqlite_resolve.specs.declared.compiled.Compiled.{Compiled}
use Rattle.sqlite_resolve.specs.declared.error.CompileError.{CompileError}
use Rattle.sqlite_schema.specs.declared.command.Command.{Command}
use Rattle.fare_layout.specs.declared.statement.Statement.{Statement}
use Rattle.fare_layout.specs.Commands.{essence}

pub no_meaning : (r : Result Compiled CompileError) → ((c : Compiled) → r ≢ Ok c) → essence r ≡ None
no_meaning (Ok c) none = absurd (none c refl)
no_meaning (Err e) none = refl

abbrev pub command_of : Statement → Command
command_of s = s.compiled.command
