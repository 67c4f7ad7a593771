use Rattle.std.proofs.Common.{codes}
use Rattle.clap.specs.Words.{with_subcommand}
use Rattle.fare_command.specs.CommandLine.{day_app, running_app, stores_app}
use Rattle.fare_command.proofs.command.asking_command.Goals as goal

pub returns : goal.returns
returns c = c.joined.ensures (with_subcommand running_app (stores_app (codes "close")).top) (day_app (codes "bill")) c.with_close.ensures c.day_command.ensures
