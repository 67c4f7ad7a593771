-- The stores of a hub, opened again over what a stop left of them.
use Rattle.std.specs.Prelude.{◌≡◌, ℕ, List, Some, slice_get}
use Rattle.sqlite_trees.specs.declared.store.Store.{Ghosts}
use Rattle.sqlite.specs.State.{State}
use Rattle.fare_outbox.specs.declared.tables.SqlOutbox.{SqlOutbox}
use Rattle.fare_outbox.specs.Words as outbox_words
use Rattle.fare_ledger.specs.declared.tables.SqlLedger.{SqlLedger}
use Rattle.fare_ledger.specs.Words as ledger_words
use Rattle.fare_sessions.specs.declared.hub.Hub.{Hub}
use Rattle.fare_sessions.specs.Stores.{HasLedgers}
use Rattle.fare_sessions.specs.Reopening.{AreLasting, AreOwned}

-- the databases show what a stop may have left of a hub's stores, which whatever it left fits together, and whose
-- ledgers are their owners'
pub record AreLeftOf {S D : Type 0} (g : Ghosts S) (state : D → State) (was : Hub (SqlOutbox S g) (SqlLedger S g)) (outbox : State) (ledgers : List D) : Type 0 where
  pub has_ledgers : HasLedgers was
  pub lasting : AreLasting (outbox_words.stands g) (ledger_words.stands g) was
  pub owned : AreOwned (outbox_words.stands g) (ledger_words.stands g) was
  pub outbox_left : (outbox_words.connected g was.outbox).may_leave outbox.now.trees
  pub ledgers_left : (place : ℕ) (x : SqlLedger S g) (d : D) → slice_get was.ledgers.items place ≡ Some x → slice_get ledgers place ≡ Some d → (ledger_words.connected g x).may_leave (state d).now.trees
