use Rattle.std.proofs.Common.{codes}
use Rattle.fare_command.specs.CommandLine.{asking_app, day_app}
use Rattle.fare_command.proofs.command.with_settle.Goals as goal

pub returns : goal.returns
returns c = c.joined.ensures asking_app (day_app (codes "settle")) c.asking_command.ensures c.day_command.ensures
