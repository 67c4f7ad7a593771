use Rattle.std.proofs.Common.{◌≡◌}
use Rattle.std.specs.Prelude.{Result, Ok, Err, IfOk}
use Rattle.std.specs.declared.alloc.AllocError.{AllocError}
use Rattle.clap.specs.Words.{App, app_of, with_subcommand}
use Rattle.clap.specs.declared.builder.command.Command.{Command}
use Rattle.fare_command.specs.CommandLine.{IsMade, letting_app, scheme_app}
use Rattle.fare_command.proofs.command.hub_command.Goals as goal

-- the command alone
is_app : (app : App) (made : Result Command AllocError) → IfOk made (IsMade app) → IfOk made (λ c. app_of c ≡ app)
is_app app (Ok c) made = made.0
is_app app (Err error) made = tt

pub returns : goal.returns
returns c = is_app (with_subcommand letting_app scheme_app.top) c.joined.result (c.joined.ensures letting_app scheme_app c.letting_command.ensures c.scheme_command.ensures)
