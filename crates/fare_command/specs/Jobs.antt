-- The job that clap's matches of the words say, and why there is none.
use Rattle.std.specs.Prelude.{◌≡◌, ◌≢◌, ℕ, ◌≤◌, List, [], Option, Some, None, true, false, codes, Bool, ◌⊎◌, Ok, option_map}
use Rattle.std.specs.Str.Parse.{ParsesUnsigned}
use Rattle.clap.specs.Faults.{fault_of}
use Rattle.clap.specs.Kinds.{IsAmong}
use Rattle.clap.specs.Words.{Row, Text, first_of, subcommand_of, takes}
use Rattle.clap.specs.declared.error.kind.ErrorKind.{ErrorKind}
use Rattle.clap.specs.declared.error.kind.ErrorKind.TheVariants.{DisplayHelp, DisplayVersion, OutOfMemory}
use Rattle.fare_record.specs.Limits.{IsDay, IsDeviceId, IsOwnerId}
use Rattle.fare_command.specs.CommandLine.{hub_app}
use Rattle.fare_command.specs.declared.words.Asking.{Asking}
use Rattle.fare_command.specs.declared.words.Asking.TheVariants as asking
use Rattle.fare_command.specs.declared.words.Job.{Job}
use Rattle.fare_command.specs.declared.words.Job.TheVariants.{Replay, Serve, Ask, Scheme}
use Rattle.fare_command.specs.declared.words.Question.{Question}
use Rattle.fare_command.specs.declared.words.Question.TheVariants.{Close, Bill, Settle, Stand, Retire, Forget}
use Rattle.fare_command.specs.declared.words.SchemeSource.{SchemeSource}
use Rattle.fare_command.specs.declared.words.SchemeSource.TheVariants.{Unsaid, Input, File}
use Rattle.fare_command.specs.declared.words.Subcommand.{Subcommand}
use Rattle.fare_command.specs.declared.words.Subcommand.TheVariants as subcommand
use Rattle.fare_command.specs.declared.words.WordsFault.{WordsFault}
use Rattle.fare_command.specs.declared.words.WordsFault.TheVariants.{Asked, Refused, Memory}

-- the name of a subcommand that asks something, and of any
abbrev pub asking_name : Asking → Text
asking_name asking.Close = codes "close"
asking_name asking.Bill = codes "bill"
asking_name asking.Settle = codes "settle"
asking_name asking.Stand = codes "stand"
asking_name asking.Retire = codes "retire"
asking_name asking.Forget = codes "forget"

abbrev pub name_of : Subcommand → Text
name_of subcommand.Replay = codes "replay"
name_of subcommand.Serve = codes "serve"
name_of (subcommand.Ask asking) = asking_name asking
name_of subcommand.Scheme = codes "scheme"

-- the store is `sql` or not; `plain` where none is given
abbrev pub IsStore : Option Text → Bool → Type 0
IsStore None sql = sql ≡ false
IsStore (Some text) sql = ((text ≡ codes "plain") × (sql ≡ false)) ⊎ ((text ≡ codes "sql") × (sql ≡ true))

-- the number of so many bits that an option's text says
abbrev pub IsNumber : ℕ → Option Text → ℕ → Type 0
IsNumber bits None n = ⊥
IsNumber bits (Some text) n = ParsesUnsigned {E = ℕ} bits 10 text (Ok n)

-- the port; 7071 where none is given
abbrev pub IsPort : Option Text → ℕ → Type 0
IsPort None port = port ≡ 7071
IsPort (Some text) port = IsNumber 16 (Some text) port

-- the port at which an operator is answered; none where none is given
abbrev pub IsAskPort : Option Text → Option ℕ → Type 0
IsAskPort None port = port ≡ None
IsAskPort (Some text) None = ⊥
IsAskPort (Some text) (Some port) = IsNumber 16 (Some text) port

-- a number from 1 to this one; that one where none is given
abbrev pub IsGiven : ℕ → ℕ → Option Text → ℕ → Type 0
IsGiven most default None n = n ≡ default
IsGiven most default (Some text) n = ParsesUnsigned {E = ℕ} 32 10 text (Ok n) × (1 ≤ n) × (n ≤ most)

-- a number of milliseconds, 1 to 60,000; this one where none is given
abbrev pub IsMillis : ℕ → Option Text → ℕ → Type 0
IsMillis default text n = IsGiven 60000 default text n

-- how many rounds where no number is given: one, and as many as there may be where a file is to end them
abbrev pub usual_rounds : Option Text → ℕ
usual_rounds None = 1
usual_rounds (Some file) = 4294967295

-- what an option's text says of where the scheme comes from
abbrev pub IsSource : Option Text → SchemeSource → Type 0
IsSource given Unsaid = given ≡ None
IsSource given Input = given ≡ Some (codes "-")
IsSource given (File path) = (given ≡ Some path.now) × (path.now ≢ codes "-")

-- an owner, a day and a device that the texts of options say
abbrev pub IsOwnerIn : List Row → ℕ → Type 0
IsOwnerIn rows owner = IsNumber 16 (first_of (codes "owner") rows) owner × IsOwnerId owner

abbrev pub IsDayIn : Text → List Row → ℕ → Type 0
IsDayIn option rows day = IsNumber 32 (first_of option rows) day × IsDay day

abbrev pub IsDeviceIn : List Row → ℕ → Type 0
IsDeviceIn rows device = IsNumber 32 (first_of (codes "device") rows) device × IsDeviceId device

-- the question of a subcommand with these matches
abbrev pub IsQuestion : Text → List Row → Question → Type 0
IsQuestion name rows Close = name ≡ codes "close"
IsQuestion name rows (Bill owner day) = (name ≡ codes "bill") × IsOwnerIn rows owner × IsDayIn (codes "day") rows day
IsQuestion name rows (Settle owner day) = (name ≡ codes "settle") × IsOwnerIn rows owner × IsDayIn (codes "day") rows day
IsQuestion name rows Stand = name ≡ codes "stand"
IsQuestion name rows (Retire owner device) = (name ≡ codes "retire") × IsOwnerIn rows owner × IsDeviceIn rows device
IsQuestion name rows (Forget before) = (name ≡ codes "forget") × IsDayIn (codes "before") rows before

-- the job of a subcommand with these matches
abbrev pub JobIn : Text → List Row → Job → Type 0
JobIn name rows (Replay sql) = (name ≡ codes "replay") × IsStore (first_of (codes "store") rows) sql
JobIn name rows (Serve port turns path scheme read_millis write_millis rounds until patience round_millis ask) = (name ≡ codes "serve")
    × IsPort (first_of (codes "port") rows) port × IsGiven 1000000000 2000 (first_of (codes "turns") rows) turns
    × (first_of (codes "outbox") rows ≡ Some path.now)
    × IsSource (first_of (codes "scheme") rows) scheme
    × IsMillis 5 (first_of (codes "read-ms") rows) read_millis × IsMillis 1000 (first_of (codes "write-ms") rows) write_millis
    × IsGiven 4294967295 (usual_rounds (first_of (codes "until") rows)) (first_of (codes "rounds") rows) rounds
    × (option_map (λ file. file.now) until ≡ first_of (codes "until") rows)
    × IsGiven 1000000000 2 (first_of (codes "patience") rows) patience
    × IsMillis 1000 (first_of (codes "round-ms") rows) round_millis
    × IsAskPort (first_of (codes "ask") rows) ask
JobIn name rows (Ask path scheme question) = (first_of (codes "outbox") rows ≡ Some path.now)
    × IsSource (first_of (codes "scheme") rows) scheme × IsQuestion name rows question
JobIn name rows (Scheme path) = (name ≡ codes "scheme") × (first_of (codes "outbox") rows ≡ Some path.now)

-- the job of the matches of the words
abbrev pub JobOf : Option (Text × List Row) → Job → Type 0
JobOf None job = ⊥
JobOf (Some matched) job = JobIn matched.0 matched.1 job

-- refused for this reason, or want of memory
abbrev pub RefusedFor : Type 0 → WordsFault → Type 0
RefusedFor reason (Asked text) = ⊥
RefusedFor reason (Refused text) = reason
RefusedFor reason Memory = Unit {0}

-- clap answers with its help or its version
abbrev pub IsAnswer : ErrorKind → Type 0
IsAnswer DisplayHelp = Unit {0}
IsAnswer DisplayVersion = Unit {0}
IsAnswer _ = ⊥

-- clap says what is wrong with the words
abbrev pub IsMistake : ErrorKind → Type 0
IsMistake DisplayHelp = ⊥
IsMistake DisplayVersion = ⊥
IsMistake OutOfMemory = ⊥
IsMistake _ = Unit {0}

-- what a text of clap's is, by its kind
abbrev pub Tells : ErrorKind → WordsFault → Type 0
Tells kind (Asked text) = IsAnswer kind
Tells kind (Refused text) = IsMistake kind
Tells kind Memory = Unit {0}

-- clap has nothing to say of the words
abbrev pub IsSound : List Text → Type 0
IsSound words = fault_of hub_app words ≡ []

-- clap does not take the words, which ask for its help or its version
abbrev pub AsksForText : List Text → Type 0
AsksForText words = (takes hub_app words ≡ true → ⊥)
    × ((kind : ErrorKind) × IsAnswer kind × IsAmong kind (fault_of hub_app words))

-- clap does not take the words, in which something is wrong
abbrev pub IsMistaken : List Text → Type 0
IsMistaken words = (takes hub_app words ≡ true → ⊥)
    × ((kind : ErrorKind) × IsMistake kind × IsAmong kind (fault_of hub_app words))

-- clap has nothing to say of the words, and they say no job
abbrev pub SaysNoJob : List Text → Type 0
SaysNoJob words = IsSound words × ((job : Job) → JobOf (subcommand_of hub_app words) job → ⊥)

-- clap's text only where the words ask for it, and refused only where something is wrong with them or they say no job
abbrev pub FailsOn : List Text → WordsFault → Type 0
FailsOn words (Asked text) = AsksForText words
FailsOn words (Refused text) = IsMistaken words ⊎ SaysNoJob words
FailsOn words Memory = Unit {0}
