-- What the databases of a hub's stores hold before it is opened, and what they hold where it isn't.
use Rattle.std.specs.Prelude.{ℕ}
use Rattle.sqlite_trees.specs.declared.store.Store.{Ghosts}
use Rattle.sqlite_trees.specs.Tree.{Trees}
use Rattle.sqlite.specs.Held.{state}
use Rattle.fare_scheme.specs.Values.{SchemeValue}
use Rattle.fare_outbox.specs.declared.tables.SqlOutbox.{SqlOutbox}
use Rattle.fare_outbox.specs.Words as outbox_words
use Rattle.fare_ledger.specs.declared.tables.SqlLedger.{SqlLedger}
use Rattle.fare_ledger.specs.Words as ledger_words
use Rattle.fare_history.specs.Stores.{StoresValue}
use Rattle.fare_sessions.specs.declared.hub.Hub.{Hub}
use Rattle.fare_sessions.specs.Reopening.{AreLasting}
use Rattle.fare_sessions.specs.Stores.{AreLive, AreSound, MayStandAs}
use Rattle.fare_databases.specs.Holding.{AreStaying, HaveCleanDisks, HoldStores, LeaveStores, ShowStores, StaysOutbox, StoresLook}
use Rattle.fare_databases.specs.declared.databases.Databases.{Databases}

module _ {S : Type 0} (g : Ghosts S) where
  -- these databases show these trees
  abbrev pub Show : Databases S → Trees → (ℕ → Trees) → Type 0
  Show databases outbox ledgers = ShowStores (state g) databases.outbox databases.ledgers.items outbox ledgers

  -- a stop would leave these of them
  abbrev pub Leave : Databases S → Trees → (ℕ → Trees) → Type 0
  Leave databases outbox ledgers = LeaveStores (state g) databases.outbox databases.ledgers.items outbox ledgers

  -- the disk of each has kept what was committed
  abbrev pub AreCleanDisks : Databases S → Type 0
  AreCleanDisks databases = HaveCleanDisks (state g) databases.outbox databases.ledgers.items

  -- a hub that was opened in databases which show trees that hold stores is live and sound, whatever a stop would leave of it
  -- fits together, and whatever its stores may hold is held by these trees, and looks like those
  pub record Holds (databases : Databases S) (hub : Hub (SqlOutbox S g) (SqlLedger S g)) : Type 0 where
    pub holds : (outbox : Trees) (ledgers : ℕ → Trees) → Show databases outbox ledgers → (h : StoresValue) → HoldStores hub.scheme outbox ledgers h
        → AreLive (outbox_words.stands g) (ledger_words.stands g) hub × AreSound (outbox_words.stands g) (ledger_words.stands g) hub × AreLasting (outbox_words.stands g) (ledger_words.stands g) hub
        × ((k : StoresValue) → MayStandAs (outbox_words.stands g) (ledger_words.stands g) hub k → HoldStores hub.scheme outbox ledgers k × StoresLook hub.scheme h k)

  -- whatever a stop would leave of each database looks like what it showed
  pub record StayStores (sc : SchemeValue) (was now : Databases S) : Type 0 where
    pub outbox_stays : StaysOutbox (state g was.outbox) (state g now.outbox)
    pub ledgers_stay : AreStaying (state g) sc was.ledgers.items now.ledgers.items
