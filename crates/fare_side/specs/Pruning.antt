-- What becomes of a ledger and an outbox where the outbox is to lose what the ledger has taken.
use Rattle.std.specs.Prelude.{◌≡◌, ◌⊎◌, ℕ, length, Result, Ok, Err}
use Rattle.fare_store.specs.declared.fault.Fault.{Fault}
use Rattle.fare_store.specs.Standing.{Standing, Reads, Removes}
use Rattle.fare_store.specs.LedgerWords.{LedgerValue}
use Rattle.fare_store.specs.OutboxWords.{OutboxValue, pruned, rows_upto}

module _ {O L : Type 0} (outbox : O → Standing OutboxValue) (ledger : L → Standing LedgerValue) where
  -- the ledger failed where it was to tell how many taps it has taken of the device, and the outbox was not asked
  pub record IsUntold (device : ℕ) (ledger_old ledger_new : L) (outbox_old outbox_new : O) (result : Result ℕ Fault) : Type 0 where
    pub fault : Fault
    pub failed : result ≡ Err fault
    pub read : Reads {A = ℕ} (ledger ledger_old) (ledger ledger_new) (λ taken. taken ≡ length ((ledger ledger_old).value.taken device)) (Err fault)
    pub unasked : outbox_new ≡ outbox_old

  -- the ledger told it, and the outbox lost the rows of the owner's lane up to there, or failed
  pub record IsPrunedUpto (owner device : ℕ) (ledger_old ledger_new : L) (outbox_old outbox_new : O) (result : Result ℕ Fault) : Type 0 where
    pub taken : ℕ
    pub read : Reads (ledger ledger_old) (ledger ledger_new) (λ taken. taken ≡ length ((ledger ledger_old).value.taken device)) (Ok taken)
    pub removed : Removes (outbox outbox_old) (outbox outbox_new) (pruned owner device taken (outbox outbox_old).value) (rows_upto taken ((outbox outbox_old).value.rows owner device)) result

  -- one of the two
  abbrev pub PrunesTaken : ℕ → ℕ → L → L → O → O → Result ℕ Fault → Type 0
  PrunesTaken owner device ledger_old ledger_new outbox_old outbox_new result =
      IsUntold device ledger_old ledger_new outbox_old outbox_new result ⊎ IsPrunedUpto owner device ledger_old ledger_new outbox_old outbox_new result
