-- Letting go of what is of a lane's days before one: of the owner's ledger, and of the outbox's statements behind it.
use Rattle.std.specs.Prelude.{◌≡◌, ◌↔◌, ℕ, true, false, Result, Ok, Err}
use Rattle.fare_store.specs.declared.fault.Fault.{Fault}
use Rattle.fare_store.specs.declared.fault.ForgetFault.{ForgetFault}
use Rattle.fare_store.specs.declared.fault.ForgetFault.TheVariants.{UnknownDevice}
use Rattle.fare_store.specs.declared.fault.Refused.{Refused}
use Rattle.fare_store.specs.declared.fault.Refused.TheVariants.{Because, Failed}
use Rattle.fare_store.specs.Standing.{Standing, Writes, Removes}
use Rattle.fare_store.specs.OutboxWords.{OutboxValue, without_statements, stated_before}
use Rattle.fare_store.specs.LedgerWords.{LedgerValue, forget_judged, forgotten}
use Rattle.fare_sessions.specs.declared.forgetting.ForgettingFault.{ForgettingFault}
use Rattle.fare_sessions.specs.declared.forgetting.ForgettingFault.TheVariants as forgetting
use Rattle.fare_sessions.specs.declared.hub.Hub.{Hub}
use Rattle.fare_sessions.specs.Stores.{ReplacesLedger}

-- what is answered where the ledger refuses, or fails
abbrev pub as_forgetting : Refused ForgetFault → Result Unit (Refused ForgettingFault)
as_forgetting (Because why) = Err (Because (forgetting.Ledger why))
as_forgetting (Failed f) = Err (Failed f)

-- and what where it let go, and the outbox was asked
abbrev pub as_removed : Result ℕ Fault → Result Unit (Refused ForgettingFault)
as_removed (Ok count) = Ok tt
as_removed (Err f) = Err (Failed f)

module _ {O L : Type 0} (outbox : O → Standing OutboxValue) (ledger : L → Standing LedgerValue) where
  -- the ledger was asked, and answered this: a device that it doesn't know it refuses unread
  pub record AsksLedger (old new : L) (device day : ℕ) (answer : Result Unit (Refused ForgetFault)) : Type 0 where
    pub unknown : (answer ≡ Err (Because UnknownDevice)) ↔ ((ledger old).value.knows device ≡ false)
    pub unasked : answer ≡ Err (Because UnknownDevice) → new ≡ old
    pub writes : (ledger old).value.knows device ≡ true → Writes (ledger old) (ledger new) (forget_judged (ledger old).value device day) (forgotten device day (ledger old).value) answer

  -- where the ledger let go the outbox was asked; where it didn't, the outbox is as it was
  abbrev pub AsksOutbox : O → O → ℕ → ℕ → ℕ → Result Unit (Refused ForgetFault) → Result Unit (Refused ForgettingFault) → Type 0
  AsksOutbox old new owner device day (Ok _) result =
      (removed : Result ℕ Fault) × Removes (outbox old) (outbox new) (without_statements owner device day (outbox old).value) (stated_before day ((outbox old).value.stated owner device)) removed × (result ≡ as_removed removed)
  AsksOutbox old new owner device day (Err why) result = (new ≡ old) × (result ≡ as_forgetting why)

  -- both, one after the other
  pub record LetsGo (outbox_old outbox_new : O) (ledger_old ledger_new : L) (owner device day : ℕ) (result : Result Unit (Refused ForgettingFault)) : Type 0 where
    pub answer : Result Unit (Refused ForgetFault)
    pub in_ledger : AsksLedger ledger_old ledger_new device day answer
    pub in_outbox : AsksOutbox outbox_old outbox_new owner device day answer result

  -- the owner's ledger of a hub, and the hub's outbox
  pub record HasForgotten (old new : Hub O L) (owner device day : ℕ) (result : Result Unit (Refused ForgettingFault)) : Type 0 where
    pub one : ReplacesLedger old new owner
    pub did : LetsGo old.outbox new.outbox one.own_old one.own_new owner device day result
