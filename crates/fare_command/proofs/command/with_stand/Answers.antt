use Rattle.std.proofs.Common.{codes}
use Rattle.clap.specs.Words.{with_subcommand}
use Rattle.fare_command.specs.CommandLine.{asking_app, day_app, stores_app}
use Rattle.fare_command.proofs.command.with_stand.Goals as goal

pub returns : goal.returns
returns c = c.joined.ensures (with_subcommand asking_app (day_app (codes "settle")).top) (stores_app (codes "stand")) c.with_settle.ensures c.stores_command.ensures
