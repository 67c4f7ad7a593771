use Rattle.fare_command.specs.CommandLine.{base_app, replay_app}
use Rattle.fare_command.proofs.command.with_replay.Goals as goal

pub returns : goal.returns
returns c = c.joined.ensures base_app replay_app c.base_command.ensures c.replay_command.ensures
