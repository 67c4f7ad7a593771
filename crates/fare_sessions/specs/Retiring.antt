-- What a retire makes of a hub's ledgers.
use Rattle.std.specs.Prelude.{◌≡◌, ◌↔◌, ℕ, true, false, Result, Ok, Err}
use Rattle.fare_owner.specs.declared.retiring.RetireFault.{RetireFault}
use Rattle.fare_owner.specs.declared.retiring.RetireFault.TheVariants.{NotMine}
use Rattle.fare_store.specs.declared.fault.Refused.{Refused}
use Rattle.fare_store.specs.declared.fault.Refused.TheVariants.{Because, Failed}
use Rattle.fare_store.specs.Standing.{Standing, Writes}
use Rattle.fare_store.specs.LedgerWords.{LedgerValue, retire_of, with_retired}
use Rattle.fare_sessions.specs.declared.retiring.RetiringFault.{RetiringFault}
use Rattle.fare_sessions.specs.declared.retiring.RetiringFault.TheVariants as retiring
use Rattle.fare_sessions.specs.declared.hub.Hub.{Hub}
use Rattle.fare_sessions.specs.Stores.{ReplacesLedger}

-- the refusal of a retire
abbrev pub retire_as_hub : Result Unit (Refused RetireFault) → Result Unit (Refused RetiringFault)
retire_as_hub (Ok _) = Ok tt
retire_as_hub (Err (Because why)) = Err (Because (retiring.Ledger why))
retire_as_hub (Err (Failed f)) = Err (Failed f)

-- a ledger was asked to retire its lane of a device; it is asked nothing of one that it doesn't know
pub record EndsLane {L : Type 0} (ledger : L → Standing LedgerValue) (old new : L) (device : ℕ) (result : Result Unit (Refused RetiringFault)) : Type 0 where
  pub answer : Result Unit (Refused RetireFault)
  pub not_mine : (answer ≡ Err (Because NotMine)) ↔ ((ledger old).value.knows device ≡ false)
  pub unasked : answer ≡ Err (Because NotMine) → new ≡ old
  pub writes : (ledger old).value.knows device ≡ true → Writes (ledger old) (ledger new) (retire_of (ledger old).value device) (with_retired device (ledger old).value) answer
  pub told : result ≡ retire_as_hub answer

-- the owner's ledger of a hub was
pub record HasRetired {O L : Type 0} (ledger : L → Standing LedgerValue) (old new : Hub O L) (owner device : ℕ) (result : Result Unit (Refused RetiringFault)) : Type 0 where
  pub one : ReplacesLedger old new owner
  pub outbox_same : new.outbox ≡ old.outbox
  pub did : EndsLane ledger one.own_old one.own_new device result
