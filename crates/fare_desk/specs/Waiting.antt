-- What waits for an owner: rows that it hasn't taken, and statements of days that it hasn't closed.
use Rattle.std.specs.Prelude.{◌≡◌, ◌⊎◌, ℕ, ◌+◌, ◌<◌, ◌≤◌, min, List, [], ◌∷◌, length, map, true, false, Option, Some, None, option_map, is_some}
use Rattle.std.specs.List.{AllByRecursion, sum_by}
use Rattle.std.specs.Map.{keys_of}
use Rattle.fare_record.specs.Values.{RecordValue}
use Rattle.fare_store.specs.Standing.{Standing}
use Rattle.fare_store.specs.OutboxWords.{OutboxValue, IsNextRow}
use Rattle.fare_store.specs.LedgerWords.{LedgerValue}
use Rattle.fare_history.specs.Stores.{StoresValue}
use Rattle.fare_sessions.specs.declared.hub.Hub.{Hub}
use Rattle.fare_sessions.specs.Stores.{AreClean, AreSound, MayStandAs}
use Rattle.fare_desk.specs.Showing.{HasStatements, OnlyAsks}
use Rattle.fare_desk.specs.declared.waiting.OwnerWaits.{OwnerWaits}
use Rattle.fare_desk.specs.declared.waiting.Waiting.{Waiting}

-- ONE LANE
-- the last row of a lane behind a lane number, or that number where there is none
pub record IsLast (rows : ℕ → Option RecordValue) (after last : ℕ) : Type 0 where
  pub from : after ≤ last
  pub held : (last ≡ after) ⊎ (is_some (rows last) ≡ true)
  pub none : (lane : ℕ) → last < lane → rows lane ≡ None

abbrev pub moment_of : RecordValue → ℕ
moment_of r = r.tap.moment

-- when the tap was made that comes next behind a lane number, if there is one
abbrev pub IsOldest : (ℕ → ℕ → ℕ → Option RecordValue) → ℕ → ℕ → ℕ → Option ℕ → Type 0
IsOldest rows owner device after moment = (next : Option RecordValue) × IsNextRow rows owner device after next × (moment ≡ option_map moment_of next)

abbrev pub nothing_waits : Waiting
nothing_waits = record { rows = 0; statements = 0; oldest = None }

-- behind the taps that a ledger has taken of a device
pub record WaitsBehind (h : StoresValue) (owner device taken : ℕ) (w : Waiting) : Type 0 where
  pub rows : IsLast (h.outbox.rows owner device) taken (taken + w.rows)
  pub statements : HasStatements h owner device w.statements
  pub oldest : IsOldest h.outbox.rows owner device taken w.oldest

-- what waits in a lane: nothing, where it is retired
pub record WaitsInLane (h : StoresValue) (owner device : ℕ) (w : Waiting) : Type 0 where
  pub working : (h.ledgers owner).retired device ≡ false → WaitsBehind h owner device (length ((h.ledgers owner).taken device)) w
  pub retired : (h.ledgers owner).retired device ≡ true → w ≡ nothing_waits

-- SEVERAL LANES
-- a count that stays at 2^64 - 1
abbrev pub up_to_most : ℕ → ℕ
up_to_most n = min n 18446744073709551615

-- the earlier of two moments, of which each may be none
abbrev pub earlier : Option ℕ → Option ℕ → Option ℕ
earlier None other = other
earlier (Some one) None = Some one
earlier (Some one) (Some other) = Some (min one other)

abbrev pub earliest : List (Option ℕ) → Option ℕ
earliest [] = None
earliest (one ∷ others) = earlier one (earliest others)

abbrev pub rows_in : Waiting → ℕ
rows_in w = w.rows

abbrev pub statements_in : Waiting → ℕ
statements_in w = w.statements

abbrev pub oldest_in : Waiting → Option ℕ
oldest_in w = w.oldest

-- these wait in an owner's lanes of these devices, one by one
abbrev pub WaitInLanes : StoresValue → ℕ → List ℕ → List Waiting → Type 0
WaitInLanes h owner [] lanes = lanes ≡ []
WaitInLanes h owner (device ∷ devices) lanes = (one : Waiting) × (others : List Waiting) × WaitsInLane h owner device one × (lanes ≡ one ∷ others) × WaitInLanes h owner devices others

-- what waits in them together
pub record WaitsInLanes (h : StoresValue) (owner : ℕ) (devices : List ℕ) (w : Waiting) : Type 0 where
  pub lanes : List Waiting
  pub each : WaitInLanes h owner devices lanes
  pub rows : w.rows ≡ up_to_most (sum_by rows_in lanes)
  pub statements : w.statements ≡ up_to_most (sum_by statements_in lanes)
  pub oldest : w.oldest ≡ earliest (map oldest_in lanes)

-- what waits in one lane more
pub record IsAndLane (old lane new : Waiting) : Type 0 where
  pub rows : new.rows ≡ up_to_most (old.rows + lane.rows)
  pub statements : new.statements ≡ up_to_most (old.statements + lane.statements)
  pub oldest : new.oldest ≡ earlier old.oldest lane.oldest

abbrev pub owner_in : OwnerWaits → ℕ
owner_in w = w.owner

module _ {O L : Type 0} (outbox : O → Standing OutboxValue) (ledger : L → Standing LedgerValue) where
  -- what waits for an owner in its lanes of these devices was told
  pub record TellsWaiting (owner : ℕ) (devices : List ℕ) (old new : Hub O L) (w : Waiting) : Type 0 where
    pub asks : OnlyAsks outbox ledger old new
    pub waits : AreClean outbox ledger new → AreSound outbox ledger old → (h : StoresValue) → MayStandAs outbox ledger new h → WaitsInLanes h owner devices w

  -- and in all of its lanes
  abbrev pub TellsOwner : ℕ → Hub O L → Hub O L → Waiting → Type 0
  TellsOwner owner old new w = TellsWaiting owner (keys_of old.scheme.devices) old new w

  -- and for each of these owners, in their order
  pub record TellsOwners (owners : List ℕ) (old new : Hub O L) (waits : List OwnerWaits) : Type 0 where
    pub asks : OnlyAsks outbox ledger old new
    pub names : map owner_in waits ≡ owners
    pub waits_are : AreClean outbox ledger new → AreSound outbox ledger old → (h : StoresValue) → MayStandAs outbox ledger new h → AllByRecursion (λ w. WaitsInLanes h w.owner (keys_of old.scheme.devices) w.waiting) waits
