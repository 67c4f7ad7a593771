-- What comes of the words after the program's name, by what is known of the input before, and of the output before and after.
use Rattle.std.specs.Prelude.{◌⊎◌, ℕ, List, Option, Result, Ok, Err, IfSome, is_some}
use Rattle.clap.specs.Words.{Text}
use Rattle.fare_run.specs.Asking.{AskEnds, AskFails, IsAskedOf}
use Rattle.fare_run.specs.Runs.{LeavesJob, RunEnds, RunFails}
use Rattle.fare_run.specs.Scheming.{given_by}
use Rattle.fare_run.specs.Serving.{IsServedOf, ServeEnds, ServeFails}
use Rattle.fare_run.specs.Showing.{ShowsNone, ShowsScheme}
use Rattle.fare_run.specs.declared.left.AskOptions.{AskOptions}
use Rattle.fare_run.specs.declared.left.Left.{Left}
use Rattle.fare_run.specs.declared.left.Left.TheVariants as left
use Rattle.fare_run.specs.declared.left.ServeOptions.{ServeOptions}
use Rattle.fare_run.specs.declared.failure.Failure.{Failure}
use Rattle.fare_run.specs.declared.failure.Failure.TheVariants.{Serve, Ask, Scheme}

-- these options were served by, or it failed at what serving says
abbrev pub Serves : ServeOptions → Option (List ℕ) → Option (List ℕ) → Option (List ℕ) → Result (Unit {0}) Failure → Type 0
Serves o known old new (Ok done) = IfSome (given_by o.scheme known) (ServeEnds (is_some o.ask) old new) × ((bytes : List ℕ) × IsServedOf (is_some o.ask) old new o.scheme bytes (Ok done))
Serves o known old new (Err (Serve why)) = ServeFails (is_some o.ask) (given_by o.scheme known) old new why × ((bytes : List ℕ) × IsServedOf (is_some o.ask) old new o.scheme bytes (Err why))
Serves o known old new (Err failure) = ⊥

-- the question of these options was answered, or it failed at what asking says
abbrev pub Asks : AskOptions → Option (List ℕ) → Option (List ℕ) → Option (List ℕ) → Result (Unit {0}) Failure → Type 0
Asks o known old new (Ok done) = IfSome (given_by o.scheme known) (AskEnds o.question old new) × ((bytes : List ℕ) × IsAskedOf o.question old new o.scheme bytes (Ok done))
Asks o known old new (Err (Ask why)) = AskFails o.question (given_by o.scheme known) old new why × ((bytes : List ℕ) × IsAskedOf o.question old new o.scheme bytes (Err why))
Asks o known old new (Err failure) = ⊥

-- the kept scheme was shown, or why there is none to show
abbrev pub Tells : Option (List ℕ) → Option (List ℕ) → Result (Unit {0}) Failure → Type 0
Tells old new (Ok done) = ShowsScheme old new
Tells old new (Err (Scheme why)) = ShowsNone old new why
Tells old new (Err failure) = ⊥

-- what was left to do was done, or failed
abbrev pub DoesLeft : Left → Option (List ℕ) → Option (List ℕ) → Option (List ℕ) → Result (Unit {0}) Failure → Type 0
DoesLeft (left.Serve o) known old new result = Serves o known old new result
DoesLeft (left.Ask o) known old new result = Asks o known old new result
DoesLeft (left.Scheme path) known old new result = Tells old new result

-- the words ask for a job on stores in files, and this came of it
abbrev pub DoesOnFiles : List Text → Option (List ℕ) → Option (List ℕ) → Option (List ℕ) → Result (Unit {0}) Failure → Type 0
DoesOnFiles words known old new result = (job : Left) × LeavesJob words job × DoesLeft job known old new result

-- what the words ask for was done to its end, or why it was not
abbrev pub CarriesOut : List Text → Option (List ℕ) → Option (List ℕ) → Option (List ℕ) → Result (Unit {0}) Failure → Type 0
CarriesOut words known old new (Ok done) = RunEnds words known old new ⊎ DoesOnFiles words known old new (Ok done)
CarriesOut words known old new (Err failure) = RunFails words known old new failure ⊎ DoesOnFiles words known old new (Err failure)
