-- What contracts see of the taps that wait.
use Rattle.std.specs.Prelude.{ℕ, ◌≤◌, List, length}
use Rattle.fare_record.specs.Values.{RecordValue}

-- the records that wait, oldest first, and how many there may be
pub record WaitingValue : Type 0 where
  pub items : List RecordValue
  pub capacity : ℕ

-- a buffer holds up to 1 to 4,096 records
abbrev pub IsCapacity : ℕ → Type 0
IsCapacity n = (1 ≤ n) × (n ≤ 4096)

-- the records are within the room
pub record IsWaiting (w : WaitingValue) : Type 0 where
  pub capacity : IsCapacity w.capacity
  pub within : length w.items ≤ w.capacity
