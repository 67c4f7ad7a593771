use Rattle.clap.specs.Words.{with_subcommand}
use Rattle.fare_command.specs.CommandLine.{base_app, replay_app, serve_app}
use Rattle.fare_command.proofs.command.running_command.Goals as goal

pub returns : goal.returns
returns c = c.joined.ensures (with_subcommand base_app replay_app.top) serve_app c.with_replay.ensures c.serve_command.ensures
