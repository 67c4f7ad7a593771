-- How serving ends, by what is known of the input before, and of the output before and after.
use Rattle.std.specs.Prelude.{◌≡◌, ◌⊎◌, ℕ, ◌++◌, Bool, true, false, List, Option, Some, Result, Ok, Err, codes}
use Rattle.std.specs.Fmt.{decimal}
use Rattle.std.specs.Io.KnownBytes.{Appends, Keeps}
use Rattle.fare_scheme.specs.Values.{SchemeValue}
use Rattle.fare_serve.specs.Counting.{IsCountsText}
use Rattle.fare_serve.specs.Pausing.{PauseOf, does_nothing}
use Rattle.fare_serve.specs.Serving.{HasFailedLines, HasServedLines}
use Rattle.fare_page.specs.Pausing.{callers_do}
use Rattle.fare_sessions.specs.declared.hub.Hub.{Hub}
use Rattle.fare_store.specs.Standing.{Standing}
use Rattle.fare_store.specs.OutboxWords.{OutboxValue}
use Rattle.fare_store.specs.LedgerWords.{LedgerValue}
use Rattle.fare_serve.specs.declared.fault.ServeFault.{ServeFault}
use Rattle.fare_serve.specs.declared.fault.ServeFault.TheVariants as serve
use Rattle.fare_run.specs.Scheming.{HasGiven, HasScheme, MakesNoScheme, SpellsScheme, TakesScheme}
use Rattle.fare_command.specs.declared.words.SchemeSource.{SchemeSource}
use Rattle.fare_run.specs.declared.serve_failure.ServeFailure.{ServeFailure}
use Rattle.fare_run.specs.declared.serve_failure.ServeFailure.TheVariants.{Lines, Refused, NoScheme, Kept, Memory, Store, Network, Write}

-- the failure of serving that wrote no counts
abbrev pub serving_failure : ServeFault → ServeFailure
serving_failure serve.Memory = Memory
serving_failure serve.Store = Store
serving_failure serve.Write = Write

-- the line that says which port is listened on
abbrev pub listening_line : ℕ → List ℕ
listening_line port = codes "listening " ++ (decimal port ++ codes "\n")

-- and the one that says at which port an operator is answered
abbrev pub answering_line : ℕ → List ℕ
answering_line port = codes "answering " ++ (decimal port ++ codes "\n")

-- the lines that say which ports these are; there is one at which an operator is answered only where that is asked for
abbrev pub ArePorts : Bool → List ℕ → Type 0
ArePorts false text = (port : ℕ) × (text ≡ listening_line port)
ArePorts true text = (port : ℕ) × (answering : ℕ) × (text ≡ listening_line port ++ answering_line answering)

-- What is done between two rounds: where an operator is answered, that is what the answers do, and else nothing.
abbrev pub pauses_of : {O L : Type 0} → (O → Standing OutboxValue) → (L → Standing LedgerValue) → Bool → PauseOf O L
pauses_of outbox ledger false = does_nothing
pauses_of outbox ledger true = callers_do outbox ledger

-- why nobody is listened to who asks: nothing was written then
abbrev pub IsUnheard : ServeFailure → Type 0
IsUnheard Memory = Unit {0}
IsUnheard Network = Unit {0}
IsUnheard _ = ⊥

-- why the ports were not told
abbrev pub IsUntold : Option (List ℕ) → Option (List ℕ) → ServeFailure → Type 0
IsUntold old new Memory = Keeps old new
IsUntold old new Write = Unit {0}
IsUntold old new _ = ⊥

-- nothing was written, or which ports these are and nothing else
abbrev pub MayListen : Bool → Option (List ℕ) → Option (List ℕ) → Type 0
MayListen asks old new = Keeps old new ⊎ ((ports : List ℕ) × ArePorts asks ports × Appends old new ports)

-- what was written is the ports and then counts for the owners of a scheme
pub record WritesCounts (sc : SchemeValue) (asks : Bool) (old new : Option (List ℕ)) : Type 0 where
  pub ports : List ℕ
  pub are_ports : ArePorts asks ports
  pub counts : List ℕ
  pub are : IsCountsText sc counts
  pub written : Appends old new (ports ++ counts)

-- the ports were written, and then what serving over the stores of a hub wrote, with pauses that do this between two rounds
pub record ServesOver {O L : Type 0} (does : PauseOf O L) (outbox : O → Standing OutboxValue) (ledger : L → Standing LedgerValue) (old new : Hub O L) (most : ℕ) (untold asks : Bool) (before after : Option (List ℕ)) : Type 0 where
  pub ports : List ℕ
  pub are_ports : ArePorts asks ports
  pub mid : Option (List ℕ)
  pub told : Appends before mid ports
  pub served : HasServedLines does outbox ledger old new most untold mid after

-- What serving that failed made of a hub's stores: nothing, where it came to no round; else what the calls of sessions up to
-- the fault did, and the pauses between two rounds, with what these keep.
abbrev pub LeavesStores : {O L : Type 0} → PauseOf O L → (O → Standing OutboxValue) → (L → Standing LedgerValue) → Hub O L → Hub O L → ServeFailure → Type 0
LeavesStores does outbox ledger old new failure = (new ≡ old) ⊎ ((fault : ServeFault) × (failure ≡ serving_failure fault) × HasFailedLines does outbox ledger old new fault)

-- how far serving over stores came at each failure
abbrev pub FailsOver : Bool → Option (List ℕ) → Option (List ℕ) → ServeFailure → Type 0
FailsOver asks old new Memory = MayListen asks old new
FailsOver asks old new Store = MayListen asks old new
FailsOver asks old new Network = Keeps old new
FailsOver asks old new Write = Unit {0}
FailsOver asks old new _ = ⊥

-- served to the end: the input makes a scheme, and what was written is the ports and then counts for its owners
pub record ServeEnds (asks : Bool) (old new : Option (List ℕ)) (input : List ℕ) : Type 0 where
  pub sc : SchemeValue
  pub spelled : SpellsScheme sc input
  pub writes : WritesCounts sc asks old new

-- What each failure says: one of the lines or of their scheme comes before anything is written, one of the network
-- before a port is told, and one of memory or of a store before any count.
abbrev pub ServeFails : Bool → Option (List ℕ) → Option (List ℕ) → Option (List ℕ) → ServeFailure → Type 0
ServeFails asks known old new (Lines fault) = Keeps old new × MakesNoScheme known (Lines fault)
ServeFails asks known old new (Refused why) = Keeps old new × MakesNoScheme known (Refused why)
ServeFails asks known old new NoScheme = Keeps old new × MakesNoScheme known NoScheme
ServeFails asks known old new (Kept why) = Keeps old new × HasScheme known
ServeFails asks known old new Memory = MayListen asks old new
ServeFails asks known old new Store = MayListen asks old new × HasScheme known
ServeFails asks known old new Network = Keeps old new × HasScheme known
ServeFails asks known old new Write = HasScheme known

-- what a failure says of the bytes that were given from a source
abbrev pub ServeFailed : Bool → Option (List ℕ) → Option (List ℕ) → SchemeSource → List ℕ → ServeFailure → Type 0
ServeFailed asks old new source input (Lines fault) = Keeps old new × MakesNoScheme (Some input) (Lines fault)
ServeFailed asks old new source input (Refused why) = Keeps old new × MakesNoScheme (Some input) (Refused why)
ServeFailed asks old new source input NoScheme = Keeps old new × MakesNoScheme (Some input) NoScheme
ServeFailed asks old new source input (Kept why) = Keeps old new × HasGiven source input
ServeFailed asks old new source input Memory = MayListen asks old new
ServeFailed asks old new source input Store = MayListen asks old new × HasGiven source input
ServeFailed asks old new source input Network = Keeps old new × HasGiven source input
ServeFailed asks old new source input Write = HasGiven source input

-- So it ended for these bytes of a scheme's lines: well where it is taken from them and the counts for its owners were written,
-- or by a failure that says this of them.
abbrev pub IsServedOf : Bool → Option (List ℕ) → Option (List ℕ) → SchemeSource → List ℕ → Result (Unit {0}) ServeFailure → Type 0
IsServedOf asks old new source input (Ok _) = (sc : SchemeValue) × TakesScheme source sc input × WritesCounts sc asks old new
IsServedOf asks old new source input (Err failure) = ServeFailed asks old new source input failure
