use Rattle.std.proofs.Common.{◌≡◌, ◌≢◌, List, subst, rules}
use Rattle.std.specs.Prelude.{Option, Some}
use Rattle.clap.specs.Words.{Row, Text, found_of, rows_of, subcommand_rows_of}
use Rattle.fare_command.specs.Jobs.{JobIn, JobOf, name_of}
use Rattle.fare_command.specs.declared.words.Asking.TheVariants as asking
use Rattle.fare_command.specs.declared.words.Job.{Job}
use Rattle.fare_command.specs.declared.words.Job.TheVariants.{Replay, Serve, Ask, Scheme}
use Rattle.fare_command.specs.declared.words.Question.TheVariants.{Close, Bill, Settle, Stand, Retire, Forget}
use Rattle.fare_command.specs.declared.words.Subcommand.{Subcommand}
use Rattle.fare_command.specs.declared.words.Subcommand.TheVariants as subcommand
use Rattle.fare_command.proofs.words.subcommand_in.Goals as goal

-- a job is of a subcommand
named : (name : Text) (rows : List Row) (job : Job) → JobIn name rows job → (s : Subcommand) × (name ≡ name_of s)
named name rows (Replay sql) is = (subcommand.Replay, is.0)
named name rows (Serve port turns path scheme read_millis write_millis rounds until patience round_millis ask) is = (subcommand.Serve, is.0)
named name rows (Ask path scheme Close) is = (subcommand.Ask asking.Close, is.2)
named name rows (Ask path scheme (Bill owner day)) is = (subcommand.Ask asking.Bill, is.2.0)
named name rows (Ask path scheme (Settle owner day)) is = (subcommand.Ask asking.Settle, is.2.0)
named name rows (Ask path scheme Stand) is = (subcommand.Ask asking.Stand, is.2)
named name rows (Ask path scheme (Retire owner device)) is = (subcommand.Ask asking.Retire, is.2.0)
named name rows (Ask path scheme (Forget before)) is = (subcommand.Ask asking.Forget, is.2.0)
named name rows (Scheme path) is = (subcommand.Scheme, is.0)

-- so a name that no subcommand has is of no job
no_job : (found : Option (Text × List Row)) (name : Text) (rows : List Row) → found ≡ Some (name, rows) → ((s : Subcommand) → name ≢ name_of s) → (job : Job) → JobOf found job → ⊥
no_job found name rows is none job job_is =
    let said = named name rows job (subst (λ (f : Option (Text × List Row)). JobOf f job) is job_is) in
    none said.0 said.1

pub returns-in_err-subcommand : goal.returns-in_err-subcommand
returns-in_err-subcommand c = rw c.from_residual-in_err-subcommand.ensures (no_job (subcommand_rows_of c.args.matches.now) c.in_ok-name.name.now (rows_of (found_of c.in_ok-name.inner.now)) (search rules) c.in_err-subcommand.ensures)
