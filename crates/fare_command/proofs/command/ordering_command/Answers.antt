use Rattle.std.proofs.Common.{codes}
use Rattle.fare_command.specs.CommandLine.{lane_app, standing_app}
use Rattle.fare_command.proofs.command.ordering_command.Goals as goal

pub returns : goal.returns
returns c = c.joined.ensures standing_app (lane_app (codes "retire")) c.with_stand.ensures c.lane_command.ensures
