use Rattle.std.proofs.Common.{codes}
use Rattle.fare_command.specs.CommandLine.{running_app, stores_app}
use Rattle.fare_command.proofs.command.with_close.Goals as goal

pub returns : goal.returns
returns c = c.joined.ensures running_app (stores_app (codes "close")) c.running_command.ensures c.stores_command.ensures
