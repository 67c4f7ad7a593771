-- A hub whose stores are opened again after a stop.
use Rattle.std.specs.Prelude.{◌≡◌, ℕ, length, slice_get, Some}
use Rattle.fare_store.specs.Standing.{Standing, Reopens}
use Rattle.fare_store.specs.OutboxWords.{OutboxValue}
use Rattle.fare_store.specs.LedgerWords.{LedgerValue, IsOfScheme}
use Rattle.fare_history.specs.Holding.{MayHold}
use Rattle.fare_sessions.specs.declared.hub.Hub.{Hub}
use Rattle.fare_sessions.specs.Stores.{IsLedgerOf, EachStore}

module _ {O L : Type 0} (outbox : O → Standing OutboxValue) (ledger : L → Standing LedgerValue) where
  -- whatever a stop would leave of each store fits together, so that an open takes it
  abbrev pub AreLasting : Hub O L → Type 0
  AreLasting hub = EachStore outbox ledger (λ s. s.lasting) (λ s. s.lasting) hub

  -- whatever the ledger of an owner may hold is the owner's, made with the hub's scheme
  pub record AreOwned (hub : Hub O L) : Type 0 where
    pub own : (owner : ℕ) (x : L) → IsLedgerOf hub owner x → (v : LedgerValue) → MayHold (ledger x) v → (v.owner ≡ owner) × IsOfScheme hub.scheme v

  -- a hub of the same scheme has each store of another one, opened again after a stop
  pub record HasReopened (old new : Hub O L) : Type 0 where
    pub scheme : new.scheme ≡ old.scheme
    pub outbox_again : Reopens (outbox old.outbox) (outbox new.outbox)
    pub count : length new.ledgers.items ≡ length old.ledgers.items
    pub ledgers_again : (place : ℕ) (x y : L) → slice_get old.ledgers.items place ≡ Some x → slice_get new.ledgers.items place ≡ Some y → Reopens (ledger x) (ledger y)
