-- Calls of sessions, one after the other, and the pauses between two rounds of them.
use Rattle.std.specs.Prelude.{◌≡◌, ◌⊎◌, List, [], ◌∷◌}
use Rattle.std.specs.List.{AllByRecursion}
use Rattle.fare_store.specs.Standing.{Standing}
use Rattle.fare_store.specs.OutboxWords.{OutboxValue}
use Rattle.fare_store.specs.LedgerWords.{LedgerValue}
use Rattle.fare_source.specs.Talking.{Talk}
use Rattle.fare_sessions.specs.declared.hub.Hub.{Hub}
use Rattle.fare_serve.specs.Calls.{AreEndedBy, Call, IsCollecting, IsHeld, IsOfScheme, IsServing}
use Rattle.fare_serve.specs.Pausing.{HasPausedOnly, HasPausedSome, PauseOf}
use Rattle.fare_serve.specs.declared.fault.ServeFault.{ServeFault}

module _ {S O L : Type 0} (talks : S → Talk) (does : PauseOf O L) (outbox : O → Standing OutboxValue) (ledger : L → Standing LedgerValue) where
  -- before a session of the stations there was a pause, or several, and nothing else was done; before one of an owner nothing was
  abbrev pub IsBehind : Call S → Hub O L → Hub O L → Type 0
  IsBehind c old begun = (IsCollecting c × HasPausedSome does outbox ledger old begun) ⊎ (IsServing c × (begun ≡ old))

  -- calls one after the other, each over the stores that the one before it, and the rest behind that one, left
  abbrev pub AreSpaced : Hub O L → Hub O L → List (Call S) → Type 0
  AreSpaced old new [] = new ≡ old
  AreSpaced old new (c ∷ cs) = (begun : Hub O L) × (ended : Hub O L) × IsBehind c old begun × IsHeld talks outbox ledger begun ended c × AreSpaced ended new cs

  -- All that was done to the stores up to a fault that ended it: calls one after the other, each of the scheme's stations or
  -- of one of its owners; and the pauses between two rounds of them, and behind the last call.
  pub record HaveStopped (old new : Hub O L) (fault : ServeFault) : Type 0 where
    pub calls : List (Call S)
    pub last : Hub O L
    pub held : AreSpaced old last calls
    pub rested : HasPausedOnly does outbox ledger last new
    pub ended : AreEndedBy fault calls
    pub each : AllByRecursion (IsOfScheme old.scheme) calls
