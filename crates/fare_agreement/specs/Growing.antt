-- What stays in the stores of a hub from one moment to a later one.
use Rattle.std.specs.Prelude.{◌≡◌, ◌⊎◌, ℕ, ◌<◌, ◌≤◌, true, List, Some, slice_get}
use Rattle.fare_record.specs.Values.{RecordValue}
use Rattle.fare_store.specs.OutboxWords.{OutboxValue}
use Rattle.fare_store.specs.LedgerWords.{LedgerValue, blank}
use Rattle.fare_world.specs.Headline.{IsPrefixOf}
use Rattle.fare_history.specs.Stores.{StoresValue}

-- WHERE NOTHING WAS LET GO
-- no greatest link falls, and each statement stays
pub record OutboxGrew (old new : OutboxValue) : Type 0 where
  pub upto : (device : ℕ) → old.upto device ≤ new.upto device
  pub stated : (owner device day count : ℕ) → old.stated owner device day ≡ Some count → new.stated owner device day ≡ Some count

-- it is the same owner's, made with the same scheme; what was taken is a prefix of what is; each statement, each closed day and
-- each retired lane stays; and what was held from a day on still is
pub record LedgerGrew (old new : LedgerValue) : Type 0 where
  pub owner : new.owner ≡ old.owner
  pub start : new.start ≡ old.start
  pub knows : (device : ℕ) → new.knows device ≡ old.knows device
  pub taken : (device : ℕ) → IsPrefixOf (old.taken device) (new.taken device)
  pub stated : (device day count : ℕ) → old.stated device day ≡ Some count → new.stated device day ≡ Some count
  pub closed : (device : ℕ) → old.closed device ≤ new.closed device
  pub retired : (device : ℕ) → old.retired device ≡ true → new.retired device ≡ true
  pub from : (device : ℕ) → new.from device ≡ old.from device

-- the outbox, and the ledger of each owner
pub record StoresGrew (old new : StoresValue) : Type 0 where
  pub outbox : OutboxGrew old.outbox new.outbox
  pub ledgers : (owner : ℕ) → LedgerGrew (old.ledgers owner) (new.ledgers owner)

-- WHERE SOMETHING MAY HAVE BEEN LET GO
-- a tap that was taken stays in its place; or it was let go, and is of a day before the one from which on all is held
abbrev pub IsKept : List RecordValue → ℕ → ℕ → RecordValue → Type 0
IsKept taken from k r = (slice_get taken k ≡ Some r) ⊎ ((slice_get taken k ≡ Some blank) × (r.tap.day < from))

-- it is the same owner's, made with the same scheme; what was taken is kept, each statement stays or was let go likewise, and each
-- closed day and each retired lane stays
pub record LedgerLasts (old new : LedgerValue) : Type 0 where
  pub owner : new.owner ≡ old.owner
  pub start : new.start ≡ old.start
  pub knows : (device : ℕ) → new.knows device ≡ old.knows device
  pub taken : (device k : ℕ) (r : RecordValue) → slice_get (old.taken device) k ≡ Some r → IsKept (new.taken device) (new.from device) k r
  pub stated : (device day count : ℕ) → old.stated device day ≡ Some count → (new.stated device day ≡ Some count) ⊎ (day < new.from device)
  pub closed : (device : ℕ) → old.closed device ≤ new.closed device
  pub retired : (device : ℕ) → old.retired device ≡ true → new.retired device ≡ true
  pub from : (device : ℕ) → old.from device ≤ new.from device

-- an owner's statement in the outbox stays, or is of a day before the one from which on the owner's ledger holds all of its device
abbrev pub IsStatedStill : StoresValue → ℕ → ℕ → ℕ → ℕ → Type 0
IsStatedStill h owner device day count = (h.outbox.stated owner device day ≡ Some count) ⊎ (day < (h.ledgers owner).from device)

-- no greatest link falls, and what else the outbox and the ledgers held lasts
pub record StoresLast (old new : StoresValue) : Type 0 where
  pub upto : (device : ℕ) → old.outbox.upto device ≤ new.outbox.upto device
  pub stated : (owner device day count : ℕ) → old.outbox.stated owner device day ≡ Some count → IsStatedStill new owner device day count
  pub ledgers : (owner : ℕ) → LedgerLasts (old.ledgers owner) (new.ledgers owner)
