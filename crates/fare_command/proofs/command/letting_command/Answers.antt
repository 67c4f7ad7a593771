use Rattle.std.proofs.Common.{codes}
use Rattle.fare_command.specs.CommandLine.{days_app, ordering_app}
use Rattle.fare_command.proofs.command.letting_command.Goals as goal

pub returns : goal.returns
returns c = c.joined.ensures ordering_app (days_app (codes "forget")) c.ordering_command.ensures c.days_command.ensures
