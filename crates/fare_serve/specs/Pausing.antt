-- What is done with a hub while it is at rest, between two rounds.
use Rattle.std.specs.Prelude.{◌≡◌, ◌<◌, ℕ, zero, suc}
use Rattle.fare_store.specs.Standing.{Standing}
use Rattle.fare_store.specs.OutboxWords.{OutboxValue}
use Rattle.fare_store.specs.LedgerWords.{LedgerValue}
use Rattle.fare_desk.specs.Closing.{GoesOn}
use Rattle.fare_sessions.specs.declared.hub.Hub.{Hub}
use Rattle.fare_sessions.specs.Reopening.{AreOwned}
use Rattle.fare_sessions.specs.Stores.{AreClean, AreSound}
use Rattle.fare_serve.specs.declared.progress.Progress.{Progress}

-- What a pause does: when serving has come so far, from a hub to a hub.
abbrev pub PauseOf : Type 0 → Type 0 → Type 1
PauseOf O L = Progress → Hub O L → Hub O L → Type 0

-- nothing
abbrev pub does_nothing : {O L : Type 0} → PauseOf O L
does_nothing progress old new = new ≡ old

module _ {O L : Type 0} (does : PauseOf O L) (outbox : O → Standing OutboxValue) (ledger : L → Standing LedgerValue) where
  -- One pause. The stores go on: what fits together stays so, and rows that agree with what the devices numbered stay so and
  -- lose nothing.
  pub record HasPaused (old new : Hub O L) : Type 0 where
    pub progress : Progress
    pub did : does progress old new
    pub goes : GoesOn outbox ledger old new

  -- so many pauses, one after the other
  abbrev pub HavePaused : ℕ → Hub O L → Hub O L → Type 0
  HavePaused zero old new = new ≡ old
  HavePaused (suc n) old new = (middle : Hub O L) × HasPaused old middle × HavePaused n middle new

  -- nothing was done to the hub but pauses, if any
  pub record HasPausedOnly (old new : Hub O L) : Type 0 where
    pub count : ℕ
    pub pauses : HavePaused count old new

  -- nothing but pauses, and one of them at least
  abbrev pub HasPausedSome : Hub O L → Hub O L → Type 0
  HasPausedSome old new = (only : HasPausedOnly old new) × (0 < only.count)

  -- no pause makes a ledger another owner's
  abbrev pub KeepOwners : Type 0
  KeepOwners = (old new : Hub O L) → HasPaused old new → AreClean outbox ledger new → AreSound outbox ledger old → AreOwned outbox ledger old → AreOwned outbox ledger new
