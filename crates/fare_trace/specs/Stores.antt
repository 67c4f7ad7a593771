-- The stores of a run, and the world over them.
use Rattle.std.specs.Prelude.{◌≡◌, ◌++◌, ℕ, List, Some, length, slice_get}
use Rattle.sqlite.specs.Steps.{over_memory}
use Rattle.sqlite_trees.specs.declared.memory.MemStore.{MemStore}
use Rattle.fare_scheme.specs.Values.{SchemeValue}
use Rattle.fare_scheme.specs.Words.{id_at}
use Rattle.fare_store.specs.declared.plain_ledger.PlainLedger.{PlainLedger}
use Rattle.fare_store.specs.declared.plain_outbox.PlainOutbox.{PlainOutbox}
use Rattle.fare_store.specs.Standing.{Standing, plain}
use Rattle.fare_store.specs.LedgerWords.{LedgerValue, IsOfScheme, IsEmptyLedger}
use Rattle.fare_store.specs.OutboxWords.{OutboxValue, IsEmptyOutbox}
use Rattle.fare_store.specs.PlainLedgerWords.{plain_ledger}
use Rattle.fare_store.specs.PlainOutboxWords.{plain_outbox}
use Rattle.fare_outbox.specs.declared.tables.SqlOutbox.{SqlOutbox}
use Rattle.fare_outbox.specs.Words as outbox_tables
use Rattle.fare_ledger.specs.declared.tables.SqlLedger.{SqlLedger}
use Rattle.fare_ledger.specs.Words as ledger_tables
use Rattle.fare_event.specs.declared.reply.Reply.{Reply}
use Rattle.fare_world.specs.declared.world.World.{World}
use Rattle.fare_event.specs.declared.reply.Reply.TheVariants.{Refused}
use Rattle.fare_event.specs.declared.reply.Refusal.TheVariants.{Sealed}
use Rattle.fare_world.specs.System.{start}
use Rattle.fare_world.specs.Whole.{AreClean, AreLive, IsStepped, StandsAt}
use Rattle.fare_lines.specs.declared.line.Line.{Line}
use Rattle.fare_lines.specs.declared.line.Line.TheVariants.{Setup, Step}
use Rattle.fare_lines.specs.Replies.{reply_text}

-- NEW STORES
-- an empty outbox
pub record IsNewOutbox {O : Type 0} (outbox : O → Standing OutboxValue) (x : O) : Type 0 where
  pub empty : IsEmptyOutbox (outbox x).value
  pub lawful : (outbox x).lawful

-- an empty ledger, made with a scheme
pub record IsNewLedger {L : Type 0} (ledger : L → Standing LedgerValue) (sc : SchemeValue) (x : L) : Type 0 where
  pub empty : IsEmptyLedger (ledger x).value
  pub made : IsOfScheme sc (ledger x).value
  pub lawful : (ledger x).lawful

-- that of the owner at a place
pub record IsNewLedgerAt {L : Type 0} (ledger : L → Standing LedgerValue) (sc : SchemeValue) (place : ℕ) (x : L) : Type 0 where
  pub owner : id_at sc.owners place ≡ Some (ledger x).value.owner
  pub new : IsNewLedger ledger sc x

-- one for each owner, in order of registration
pub record AreNewLedgers {L : Type 0} (ledger : L → Standing LedgerValue) (sc : SchemeValue) (ledgers : List L) : Type 0 where
  pub count : length ledgers ≡ length sc.owners
  pub each : (k : ℕ) (x : L) → slice_get ledgers k ≡ Some x → IsNewLedgerAt ledger sc k x

-- how the stores stand that keep lists
abbrev pub outbox_is : PlainOutbox → Standing OutboxValue
outbox_is o = plain (plain_outbox o)

abbrev pub ledger_is : PlainLedger → Standing LedgerValue
ledger_is l = plain (plain_ledger l)

-- and those in databases in memory
abbrev pub sql_outbox_is : SqlOutbox MemStore over_memory → Standing OutboxValue
sql_outbox_is o = outbox_tables.stands over_memory o

abbrev pub sql_ledger_is : SqlLedger MemStore over_memory → Standing LedgerValue
sql_ledger_is l = ledger_tables.stands over_memory l

-- THE WORLD OVER THEM
module _ {O L : Type 0} (outbox : O → Standing OutboxValue) (ledger : L → Standing LedgerValue) where
  abbrev pub IsNew : World O L → Type 0
  IsNew w = StandsAt outbox ledger w (start w.scheme)

  -- its stores are live after what it did, where they were and are clean
  abbrev pub StaysLive : World O L → World O L → Type 0
  StaysLive old new = AreLive outbox ledger old → AreClean outbox ledger new → AreLive outbox ledger new

  -- one more line after the seal is answered
  abbrev pub WritesStep : World O L → World O L → Line → List ℕ → List ℕ → Type 0
  WritesStep old new (Setup line) before after = (new ≡ old) × (after ≡ before ++ reply_text (Refused Sealed))
  WritesStep old new (Step event) before after = (reply : Reply) × IsStepped outbox ledger old new event reply × (after ≡ before ++ reply_text reply)
