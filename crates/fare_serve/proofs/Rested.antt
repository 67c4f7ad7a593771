-- A hub at rest.
use Rattle.std.proofs.Common.{◌≡◌, ◌≤◌, ◌<◌, ◌+◌, ℕ, zero, suc, refl, sym, ap, ◌∙◌, subst, length, arith}
use Rattle.fare_scheme.specs.Values.{SchemeValue}
use Rattle.fare_store.specs.Standing.{Standing}
use Rattle.fare_store.specs.OutboxWords.{OutboxValue}
use Rattle.fare_store.specs.LedgerWords.{LedgerValue}
use Rattle.fare_sessions.specs.declared.hub.Hub.{Hub}
use Rattle.fare_sessions.specs.Reopening.{AreOwned}
use Rattle.fare_sessions.specs.Stores.{AreClean, AreSound, HasLedgers}
use Rattle.fare_sessions.proofs.Follow.{clean_back}
use Rattle.fare_desk.specs.Closing.{GoesOn}
use Rattle.fare_desk.proofs.Going.{goes_join, goes_self}
use Rattle.fare_serve.specs.Pausing.{HasPaused, HasPausedOnly, HasPausedSome, HavePaused, KeepOwners, PauseOf, does_nothing}

module _ {O L : Type 0} (does : PauseOf O L) (outbox : O → Standing OutboxValue) (ledger : L → Standing LedgerValue) where
  pub rested_none : (hub : Hub O L) → HasPausedOnly does outbox ledger hub hub
  rested_none hub = record { count = 0; pauses = refl }

  paused_more : (n : ℕ) (a b c : Hub O L) → HavePaused does outbox ledger n a b → HasPaused does outbox ledger b c → HavePaused does outbox ledger (suc n) a c
  paused_more zero a b c were one = (c, subst (λ (h : Hub O L). HasPaused does outbox ledger h c) were one, refl)
  paused_more (suc n) a b c were one = (were.0, were.1, paused_more n were.0 b c were.2 one)

  -- so many pauses, or more
  abbrev pub HasPausedTimes : ℕ → Hub O L → Hub O L → Type 0
  HasPausedTimes n a b = (only : HasPausedOnly does outbox ledger a b) × (n ≤ only.count)

  pub times_none : (hub : Hub O L) → HasPausedTimes 0 hub hub
  times_none hub = (rested_none hub, omega arith)

  pub times_more : (n : ℕ) (a b c : Hub O L) → HasPausedTimes n a b → HasPaused does outbox ledger b c → HasPausedTimes (n + 1) a c
  times_more n a b c was one =
      let many = was.1 in
      (record { count = suc was.0.count; pauses = paused_more was.0.count a b c was.0.pauses one }, omega (arith, many))

  pub times_some : (n : ℕ) (a b : Hub O L) → HasPausedTimes n a b → 0 < n → HasPausedSome does outbox ledger a b
  times_some n a b was some = let many = was.1 in (was.0, omega (arith, many, some))

  paused_goes : (n : ℕ) (a b : Hub O L) → HavePaused does outbox ledger n a b → GoesOn outbox ledger a b
  paused_goes zero a b were = subst (GoesOn outbox ledger a) (sym were) (goes_self outbox ledger a)
  paused_goes (suc n) a b were = goes_join outbox ledger a were.0 b were.1.goes (paused_goes n were.0 b were.2)

  -- the stores of a hub at rest go on
  pub rested_goes : (a b : Hub O L) → HasPausedOnly does outbox ledger a b → GoesOn outbox ledger a b
  rested_goes a b was = paused_goes was.count a b was.pauses

  -- and each owner still has its ledger
  pub rested_ledgers : (a b : Hub O L) → HasPausedOnly does outbox ledger a b → HasLedgers a → HasLedgers b
  rested_ledgers a b was has =
      let goes = rested_goes a b was in
      goes.follow.count ∙ (has ∙ ap (λ (sc : SchemeValue). length sc.owners) (sym goes.scheme))

  paused_owned : KeepOwners does outbox ledger → (n : ℕ) (a b : Hub O L) → HavePaused does outbox ledger n a b → AreClean outbox ledger b → AreSound outbox ledger a → AreOwned outbox ledger a → AreOwned outbox ledger b
  paused_owned keep zero a b were clean sound owned = subst (AreOwned outbox ledger) (sym were) owned
  paused_owned keep (suc n) a b were clean sound owned =
      let m = were.0 in
      let clean_m = clean_back outbox ledger m b (paused_goes n m b were.2).follow clean in
      paused_owned keep n m b were.2 clean (were.1.goes.sound sound) (keep a m were.1 clean_m sound owned)

  pub rested_owned : KeepOwners does outbox ledger → (a b : Hub O L) → HasPausedOnly does outbox ledger a b → AreClean outbox ledger b → AreSound outbox ledger a → AreOwned outbox ledger a → AreOwned outbox ledger b
  rested_owned keep a b was clean sound owned = paused_owned keep was.count a b was.pauses clean sound owned

-- PAUSES THAT DO NOTHING
module _ {O L : Type 0} (outbox : O → Standing OutboxValue) (ledger : L → Standing LedgerValue) where
  still : (n : ℕ) (a b : Hub O L) → HavePaused does_nothing outbox ledger n a b → b ≡ a
  still zero a b were = were
  still (suc n) a b were = still n were.0 b were.2 ∙ were.1.did

  -- leave the hub as it was
  pub rested_still : (a b : Hub O L) → HasPausedOnly does_nothing outbox ledger a b → b ≡ a
  rested_still a b was = still was.count a b was.pauses

  -- and each ledger its owner's
  pub nothing_owned : KeepOwners does_nothing outbox ledger
  nothing_owned a b was clean sound owned = subst (AreOwned outbox ledger) (sym was.did) owned
