-- What an owner does with several items at once.
use Rattle.std.specs.Prelude.{◌≡◌, ℕ, ◌≤◌, List, [], ◌∷◌, ◌++◌, length, map, take, Option, None, Some, Result, Ok, Err}
use Rattle.fare_record.specs.Values.{RecordValue}
use Rattle.fare_record.specs.declared.item.Item.{Item}
use Rattle.fare_record.specs.declared.item.Item.TheVariants.{Tap}
use Rattle.fare_lane_queue.specs.Passes.{taken_list, left_list}
use Rattle.fare_lane_queue.specs.declared.ended.Ended.{Ended}
use Rattle.fare_lane_queue.specs.declared.passes.OwnerPass.{OwnerPass}
use Rattle.fare_store.specs.Standing.{Standing}
use Rattle.fare_store.specs.LedgerWords.{LedgerValue}
use Rattle.fare_session.specs.declared.batching.Halt.{Halt}
use Rattle.fare_session.specs.declared.fault.SessionFault.{SessionFault}
use Rattle.fare_session.specs.Taking.{IsTaken, IsTaking}

-- how many items may be in a batch
abbrev pub IsBatch : ℕ → Type 0
IsBatch n = (1 ≤ n) × (n ≤ 256)

-- these items came from the queue
abbrev pub CameWith : OwnerPass → OwnerPass → List Item → Type 0
CameWith old new more = taken_list new ≡ taken_list old ++ more

-- these items were the first of what was left in the queue
abbrev pub CameFrom : Ended → Ended → List Item → Type 0
CameFrom old new more = left_list old ≡ more ++ left_list new

-- these items are the first ones and, behind them, those that came, in order
pub record HasTakenMore (comes : List Item → Type 0) (first items : List Item) : Type 0 where
  pub more : List Item
  pub items_are : items ≡ first ++ more
  pub came : comes more

-- the first n of these items are the taps of these rows
pub record AreTaps (items : List Item) (rows : List RecordValue) (n : ℕ) : Type 0 where
  pub few : n ≤ length items
  pub same : take n items ≡ map Tap (take n rows)

-- the ledger took the first n of these items, or it failed or refused at the first one, and the others stand behind it
abbrev pub TakesFirst : Standing LedgerValue → Standing LedgerValue → List Item → Result ℕ SessionFault → ℕ → ℕ → Type 0
TakesFirst old new items (Ok n) before after = (n ≤ length items) × IsTaken old new (take n items) None [] None before after
TakesFirst old new items (Err fault) before after = (i : Item) × (rest : List Item) × (items ≡ i ∷ rest) × IsTaken old new [] (Some i) rest (Some fault) before after

-- an item came, and others behind it, and this is what the ledger made of them
pub record IsBatchTaken (old new : Standing LedgerValue) (first : Item) (comes : List Item → Type 0) (halt : Option Halt) (before after : ℕ) : Type 0 where
  pub more : List Item
  pub came : comes more
  pub taking : IsTaking old new (first ∷ more) halt before after
