use Rattle.std.proofs.Common.{map, subst}
use Rattle.clap.specs.Words.{subcommand_of}
use Rattle.fare_command.specs.CommandLine.{hub_app}
use Rattle.fare_command.specs.Jobs.{JobOf}
use Rattle.fare_run.specs.Runs.{job_of}
use Rattle.fare_run.proofs.Asked.{no_files}
use Rattle.fare_run.proofs.running.run.Goals as goal

pub returns-in-Ok-clause-files : goal.returns-in-Ok-clause-files
returns-in-Ok-clause-files g c =
    let matched = subcommand_of hub_app (map (λ word. word.now) c.args.words.now) in
    λ asks. no_files matched c.in-Ok-Replay.sql asks.1.0 (subst (λ w. JobOf matched (job_of w)) c.in-Ok-Replay.field-0-is c.in-Ok-Replay.ensures.work.1) asks.1.1 asks.1.2

pub returns-in-Ok-Replay-clause-files : goal.returns-in-Ok-Replay-clause-files
returns-in-Ok-Replay-clause-files g c =
    let matched = subcommand_of hub_app (map (λ word. word.now) c.args.words.now) in
    λ asks. absurd (no_files matched c.in-Ok-Replay.sql asks.1.0 (subst (λ w. JobOf matched (job_of w)) c.in-Ok-Replay.field-0-is c.in-Ok-Replay.ensures.work.1) asks.1.1 asks.1.2)
