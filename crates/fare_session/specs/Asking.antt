-- Where a ledger stands, when it was asked device by device.
use Rattle.std.specs.Prelude.{◌≡◌, ℕ, ◌≤◌, List, length, slice_get, Option, None, Some, Result, IfOk, OnOk, IsErrOf}
use Rattle.fare_scheme.specs.Values.{SchemeValue}
use Rattle.fare_scheme.specs.Words.{position_of_device}
use Rattle.fare_store.specs.declared.fault.Fault.{Fault}
use Rattle.fare_store.specs.declared.fault.Fault.TheVariants.{Store}
use Rattle.fare_store.specs.Standing.{Standing, fault_of}
use Rattle.fare_store.specs.LedgerWords.{LedgerValue, closed_through}
use Rattle.fare_history.specs.Serving.{IsWorking}
use Rattle.fare_session.specs.Stores.{HasStood, Stays}
use Rattle.fare_session.specs.Forwarding.{AreApart}

-- how many taps of a device it has, and its last closed day
abbrev pub standing_of : LedgerValue → ℕ → ℕ × Option ℕ
standing_of l device = (length (l.taken device), closed_through l device)

pub record IsStanding (old new : Standing LedgerValue) (device : ℕ) (result : Result (ℕ × Option ℕ) Fault) : Type 0 where
  pub faulted : Option Fault
  pub stays : Stays old new faulted
  pub is : faulted ≡ fault_of result
  -- a clean ledger that answered is live
  pub live : OnOk result (new.clean → new.live)
  pub told : IfOk result (λ p. HasStood old new → p ≡ standing_of old.value device)

-- the entry at a place is of the device there
pub record IsToldAt (sc : SchemeValue) (old new : Standing LedgerValue) (bases : List (ℕ × ℕ)) (k : ℕ) (p : ℕ × Option ℕ) : Type 0 where
  pub device : ℕ
  pub at : position_of_device sc device ≡ Some k
  pub base : slice_get bases k ≡ Some (device, p.0)
  pub told : HasStood old new → p ≡ standing_of old.value device

pub record AreTold (sc : SchemeValue) (old new : Standing LedgerValue) (standings : List (ℕ × Option ℕ)) (bases : List (ℕ × ℕ)) : Type 0 where
  pub same : length bases ≡ length standings
  pub each : (k : ℕ) (p : ℕ × Option ℕ) → slice_get standings k ≡ Some p → IsToldAt sc old new bases k p

pub record IsAsked (sc : SchemeValue) (old new : Standing LedgerValue) (standings : List (ℕ × Option ℕ)) (bases : List (ℕ × ℕ)) (result : Result Unit Fault) : Type 0 where
  pub faulted : Option Fault
  pub stays : Stays old new faulted
  pub cause : IsErrOf result Store → faulted ≡ Some Store
  pub none : OnOk result (faulted ≡ None)
  -- a clean ledger that answered was live
  pub live : OnOk result (new.clean → old.live)
  pub told : OnOk result (AreTold sc old new standings bases)
  pub count : OnOk result (length standings ≡ length sc.devices)
  pub some : OnOk result (1 ≤ length sc.devices)

-- of these lanes the working ones are those that the ledger hasn't retired, if it has kept what it held
pub record AreWorking (old new : Standing LedgerValue) (lanes working : List (ℕ × ℕ)) : Type 0 where
  pub among : (k : ℕ) (p : ℕ × ℕ) → slice_get working k ≡ Some p → (j : ℕ) × (slice_get lanes j ≡ Some p)
  pub apart : AreApart working
  pub works : HasStood old new → (k : ℕ) (p : ℕ × ℕ) → slice_get working k ≡ Some p → IsWorking old.value p.0
  pub all : HasStood old new → (j : ℕ) (p : ℕ × ℕ) → slice_get lanes j ≡ Some p → IsWorking old.value p.0 → (k : ℕ) × (slice_get working k ≡ Some p)

pub record AreSifted (old new : Standing LedgerValue) (lanes working : List (ℕ × ℕ)) (result : Result Unit Fault) : Type 0 where
  pub faulted : Option Fault
  pub stays : Stays old new faulted
  pub cause : IsErrOf result Store → faulted ≡ Some Store
  pub none : OnOk result (faulted ≡ None)
  pub told : OnOk result (AreWorking old new lanes working)
