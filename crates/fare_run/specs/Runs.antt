-- How a run ends, by what is known of the input before, and of the output before and after.
use Rattle.std.specs.Prelude.{◌≡◌, ◌⊎◌, ℕ, Bool, true, List, Option, Result, Ok, Err, Some, None, IfSome}
use Rattle.std.specs.Io.KnownBytes.{Appends}
use Rattle.clap.specs.Words.{Text, subcommand_of, takes}
use Rattle.fare_command.specs.CommandLine.{hub_app}
use Rattle.fare_command.specs.Jobs.{AsksForText, IsMistaken, IsSound, JobOf, SaysNoJob}
use Rattle.fare_command.specs.declared.words.Job.{Job}
use Rattle.fare_command.specs.declared.words.Job.TheVariants as job
use Rattle.fare_replay.specs.Replay.{ReplayFails, Replays}
use Rattle.fare_replay.specs.declared.stream.ReplayFault.TheVariants as fault
use Rattle.fare_run.specs.declared.left.Left.{Left}
use Rattle.fare_run.specs.declared.left.Left.TheVariants as left
use Rattle.fare_run.specs.declared.running.Work.{Work}
use Rattle.fare_run.specs.declared.running.Work.TheVariants as work
use Rattle.fare_run.specs.declared.failure.Failure.{Failure}
use Rattle.fare_run.specs.declared.failure.Failure.TheVariants.{Replay, Write, Memory, Serve, Ask, Scheme, Refused}

-- the job of the words
abbrev pub IsJob : List Text → Job → Type 0
IsJob words job = JobOf (subcommand_of hub_app words) job

-- a job that works on stores in files
abbrev pub IsOfFiles : Job → Type 0
IsOfFiles (job.Replay sql) = ⊥
IsOfFiles (job.Serve port turns path scheme read_millis write_millis rounds until patience round_millis ask) = Unit {0}
IsOfFiles (job.Ask path scheme question) = Unit {0}
IsOfFiles (job.Scheme path) = Unit {0}

-- clap has nothing to say of the words, and this is their job
abbrev pub AsksFor : List Text → Job → Type 0
AsksFor words job = IsSound words × IsJob words job

-- clap takes the words, and their job is one of stores in files
abbrev pub AsksForFiles : List Text → Type 0
AsksForFiles words = (takes hub_app words ≡ true) × ((job : Job) × IsJob words job × IsOfFiles job)

-- the words ask for a text of clap's, and a text was written
abbrev pub Shows : List Text → Option (List ℕ) → Option (List ℕ) → Type 0
Shows words old new = AsksForText words × ((text : List ℕ) × Appends old new text)

-- the words ask for a replay, and the replies are written
abbrev pub EndsReplay : List Text → Option (List ℕ) → Option (List ℕ) → Option (List ℕ) → Type 0
EndsReplay words known old new = ((sql : Bool) × AsksFor words (job.Replay sql)) × IfSome known (Replays old new)

-- the job is done: a replay was asked for and its replies are written, or a text is shown
abbrev pub RunEnds : List Text → Option (List ℕ) → Option (List ℕ) → Option (List ℕ) → Type 0
RunEnds words known old new = EndsReplay words known old new ⊎ Shows words old new

-- what each failure of a run says; a store fails only where the words ask for tables, and stores in files are none of a run's work
abbrev pub RunFails : List Text → Option (List ℕ) → Option (List ℕ) → Option (List ℕ) → Failure → Type 0
RunFails words known old new (Replay why) = ((sql : Bool) × AsksFor words (job.Replay sql) × (why ≡ fault.Store → sql ≡ true)) × ReplayFails known old new why
RunFails words known old new Write = AsksForText words
RunFails words known old new Memory = Unit {0}
RunFails words known old new (Serve why) = ⊥
RunFails words known old new (Ask why) = ⊥
RunFails words known old new (Scheme why) = ⊥
RunFails words known old new (Refused text) = IsMistaken words ⊎ SaysNoJob words

-- the failures that come before anything is read or written
abbrev pub IsBefore : Failure → Type 0
IsBefore (Replay why) = ⊥
IsBefore Write = ⊥
IsBefore Memory = Unit {0}
IsBefore (Serve why) = ⊥
IsBefore (Ask why) = ⊥
IsBefore (Scheme why) = ⊥
IsBefore (Refused text) = Unit {0}

-- the job that is left to do
abbrev pub job_left : Left → Job
job_left (left.Serve options) = job.Serve options.port options.limits.turns options.path options.scheme options.limits.read_millis options.limits.write_millis options.limits.rounds options.until options.limits.patience options.limits.round_millis options.ask
job_left (left.Ask options) = job.Ask options.path options.scheme options.question
job_left (left.Scheme path) = job.Scheme path

-- the job of which this is what is done
abbrev pub job_of : Work → Job
job_of (work.Replay sql) = job.Replay sql
job_of (work.Left l) = job_left l

-- what is left to do is what the words ask for
abbrev pub LeavesJob : List Text → Left → Type 0
LeavesJob words l = AsksFor words (job_left l)

-- what is answered where the words ask for stores in files: that it is left to do, or want of memory
abbrev pub LeavesIt : {A : Type 0} → Result (Option A) Failure → Type 0
LeavesIt (Ok None) = ⊥
LeavesIt (Ok (Some options)) = Unit {0}
LeavesIt (Err failure) = failure ≡ Memory
