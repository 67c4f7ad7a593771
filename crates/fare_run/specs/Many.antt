-- Runs one after the other over the same databases, each in a process of its own, which may be ended by a stop.
use Rattle.std.specs.Prelude.{◌≡◌, ◌⊎◌, ℕ, List, [], ◌∷◌}
use Rattle.sqlite.specs.Held.{Held, state}
use Rattle.sqlite.specs.State.{HasCleanDisk}
use Rattle.sqlite_trees.specs.Tree.{Trees}
use Rattle.sqlite_trees.specs.declared.store.Store.{Ghosts}
use Rattle.fare_record.specs.Values.{RecordValue}
use Rattle.fare_scheme.specs.Facts.{IsScheme}
use Rattle.fare_scheme.specs.Values.{SchemeValue}
use Rattle.fare_growth.specs.Growth.{AddsTo}
use Rattle.fare_agreement.specs.Agreeing.{AreNumberedLists}
use Rattle.fare_databases.specs.Held.{AreCleanDisks, Leave, Show}
use Rattle.fare_databases.specs.Holding.{AreVacantFor, HoldAgreed, ShowsJust}
use Rattle.fare_databases.specs.declared.databases.Databases.{Databases}
use Rattle.fare_registry.specs.Still.{HoldsStill}
use Rattle.fare_command.specs.declared.words.Question.{Question}
use Rattle.fare_serve.specs.Serving.{HaveTold}
use Rattle.fare_run.specs.Databases.{KeepsCalls, KeepsIn, LineCall}

-- Serving, in which all frames that the lines gave are of the lists, or asking.
abbrev pub IsServedOrAsked : {S : Type 0} → Ghosts S → SchemeValue → (ℕ → List RecordValue) → Databases S → Databases S → Type 0
IsServedOrAsked g sc lists before after = ((calls : List LineCall) × KeepsCalls g sc before after calls × HaveTold sc lists calls) ⊎ ((question : Question) × KeepsIn g sc question before after)

-- A run over databases that show these trees, whose disks kept what was committed, and of which these were left.
pub record IsRunOf {S : Type 0} (g : Ghosts S) (sc : SchemeValue) (lists : ℕ → List RecordValue) (outbox : Trees) (ledgers : ℕ → Trees) (outbox_left : Trees) (ledgers_left : ℕ → Trees) : Type 0 where
  pub before : Databases S
  pub after : Databases S
  pub ran : IsServedOrAsked g sc lists before after
  pub clean : AreCleanDisks g after
  pub shows : Show g before outbox ledgers
  pub leaves : Leave g after outbox_left ledgers_left

-- What comes before such a run, over the outbox's database alone: a scheme is kept beside the outbox, or told of what is kept there,
-- and the outbox is held still.
pub record IsKeptOrTold {S : Type 0} (g : Ghosts S) (outbox outbox_left : Trees) : Type 0 where
  pub before : Held S
  pub after : Held S
  pub still : HoldsStill (state g before) (state g after)
  pub clean : HasCleanDisk (state g after)
  pub shows : ShowsJust (state g before) outbox
  pub leaves : (state g after).may_leave outbox_left

-- the trees of an outbox's database, and of the ledgers'
pub record Left : Type 0 where
  pub outbox : Trees
  pub ledgers : ℕ → Trees

-- the one that left these was a run, or came before one and left the ledgers alone
abbrev pub LedTo : {S : Type 0} → Ghosts S → SchemeValue → (ℕ → List RecordValue) → Left → Left → Type 0
LedTo g sc lists start next = IsRunOf g sc lists start.outbox start.ledgers next.outbox next.ledgers ⊎ (IsKeptOrTold g start.outbox next.outbox × (next.ledgers ≡ start.ledgers))

-- the scheme of one, and what was left of it
pub record Run : Type 0 where
  pub scheme : SchemeValue
  pub left : Left

-- A valid scheme adds to the one before it, if it isn't the same: then the databases of the ledgers of the owners that it adds are
-- vacant.
pub record IsAdded (sc later : SchemeValue) (ledgers : ℕ → Trees) : Type 0 where
  pub valid : IsScheme later
  pub adds : AddsTo sc later
  pub vacant : AreVacantFor sc later ledgers

-- One after the other, each of the scheme of the one before it or of one that adds to it, and over databases that show what the one
-- before it left.
abbrev pub AreRunsOf : {S : Type 0} → Ghosts S → (ℕ → List RecordValue) → Run → List Run → Type 0
AreRunsOf g lists start [] = Unit {0}
AreRunsOf g lists start (next ∷ more) = IsAdded start.scheme next.scheme start.left.ledgers × LedTo g next.scheme lists start.left next.left × AreRunsOf g lists next more

-- the last one
abbrev pub last_of : Run → List Run → Run
last_of start [] = start
last_of start (next ∷ more) = last_of next more

-- the databases hold stores of the run's scheme, which agree with the lists
abbrev pub IsAgreed : (ℕ → List RecordValue) → Run → Type 0
IsAgreed lists run = HoldAgreed run.scheme lists run.left.outbox run.left.ledgers

-- Where the databases show stores that agree with lists of taps of which all frames are that came in every run, they agree
-- behind any number of runs, of that scheme and of those that add to it from run to run.
abbrev pub RunsKeep : {S : Type 0} → Ghosts S → Type 0
RunsKeep g = (lists : ℕ → List RecordValue) (start : Run) (runs : List Run) → AreNumberedLists lists → IsScheme start.scheme → IsAgreed lists start → AreRunsOf g lists start runs → IsAgreed lists (last_of start runs)
