-- The databases of a hub's stores, once it is taken apart.
use Rattle.std.specs.Prelude.{◌≡◌, false, ℕ, List, [], ◌++◌, length, slice_get, Some}
use Rattle.sqlite_trees.specs.declared.store.Store.{Ghosts}
use Rattle.sqlite.specs.Held.{Held, state}
use Rattle.sqlite.specs.State.{Survives}
use Rattle.fare_tables.specs.Asking.{IsLive}
use Rattle.fare_tables.specs.Tabled.{IsFit}
use Rattle.fare_outbox.specs.declared.tables.SqlOutbox.{SqlOutbox}
use Rattle.fare_outbox_rows.specs.Layouts as outbox_layouts
use Rattle.fare_outbox.specs.Words as outbox_words
use Rattle.fare_ledger.specs.declared.tables.SqlLedger.{SqlLedger}
use Rattle.fare_ledger.specs.Layouts as ledger_layouts
use Rattle.fare_ledger.specs.Words as ledger_words
use Rattle.fare_sessions.specs.declared.hub.Hub.{Hub}
use Rattle.fare_databases.specs.declared.databases.Databases.{Databases}

module _ {S : Type 0} (g : Ghosts S) where
  -- a store's database: a stop leaves what it would have left of the store, and no transaction is open
  pub record IsBack (live : Type 0) (was : Held S) (now : Held S) : Type 0 where
    pub crash : Survives (state g was) (state g now) (λ _. ⊥)
    pub idle : now.in_transaction ≡ false
    pub still_live : live → IsLive (state g now)

  -- it shows what a lawful outbox held
  abbrev pub ShowsOutbox : SqlOutbox S g → Held S → Type 0
  ShowsOutbox x now = (outbox_words.stands g x).lawful → IsFit (outbox_layouts.schema_in x.layout) (outbox_words.IsLawful x.layout) (state g now) × (outbox_words.value_at x.layout (state g now).now.trees ≡ (outbox_words.stands g x).value)

  -- and what a lawful ledger held
  abbrev pub ShowsLedger : SqlLedger S g → Held S → Type 0
  ShowsLedger x now =
      (ledger_words.stands g x).lawful → IsFit (ledger_layouts.schema_in x.layout) (ledger_words.IsLawful x.layout (ledger_words.stands g x).value.owner (ledger_words.stands g x).value.start) (state g now)
      × (ledger_words.value_at x.layout (ledger_words.stands g x).value.owner (ledger_words.stands g x).value.start (ledger_words.stands g x).value.knows (state g now).now.trees ≡ (ledger_words.stands g x).value)

  -- each database is that of the ledger at its place
  abbrev pub AreBacks : List (SqlLedger S g) → List (Held S) → Type 0
  AreBacks ledgers backs = (place : ℕ) (x : SqlLedger S g) (d : Held S) → slice_get ledgers place ≡ Some x → slice_get backs place ≡ Some d → IsBack (ledger_words.stands g x).live x.conn d × ShowsLedger x d

  -- the ledgers' databases stand behind those that were there, in their order
  pub record AreHandedBack (ledgers : List (SqlLedger S g)) (before after : List (Held S)) : Type 0 where
    pub backs : List (Held S)
    pub are : after ≡ before ++ backs
    pub count : length backs ≡ length ledgers
    pub each : AreBacks ledgers backs

  -- the outbox's, and each ledger's
  pub record IsHandedBack (hub : Hub (SqlOutbox S g) (SqlLedger S g)) (databases : Databases S) : Type 0 where
    pub outbox_back : IsBack (outbox_words.stands g hub.outbox).live hub.outbox.conn databases.outbox
    pub outbox_shown : ShowsOutbox hub.outbox databases.outbox
    pub ledgers_back : AreHandedBack hub.ledgers.items [] databases.ledgers.items
