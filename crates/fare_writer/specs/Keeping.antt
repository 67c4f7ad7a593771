-- What the writer did with items where no line was told.
use Rattle.std.specs.Prelude.{◌≡◌, ℕ, ◌+◌, List, ◌∷◌, ◌++◌, length, Option}
use Rattle.fare_scheme.specs.Values.{SchemeValue}
use Rattle.fare_store.specs.Standing.{Standing}
use Rattle.fare_store.specs.OutboxWords.{OutboxValue}
use Rattle.fare_inbox_queue.specs.Inbox.{of_station}
use Rattle.fare_inbox_queue.specs.InboxPasses.{left_of}
use Rattle.fare_inbox_queue.specs.declared.arrived.Arrived.{Arrived}
use Rattle.fare_inbox_queue.specs.declared.inbox_ended.InboxEnded.{InboxEnded}
use Rattle.fare_writer.specs.declared.teller.Teller.{Teller}
use Rattle.fare_writer.specs.declared.halt.Halt.{Halt}
use Rattle.fare_writer.specs.declared.tally.Tally.{Tally}
use Rattle.fare_writer.specs.Handling.{HasWritten}

-- items were stored, or had been before, and no line was told
pub record HasKept (sc : SchemeValue) (old new : Standing OutboxValue) (items : List Arrived) (tally_old tally_new : Tally) (halt : Option Halt) : Type 0 where
  pub each : (t : List Teller) → HasWritten sc old new items t t tally_old tally_new halt

-- these items were left in the inbox, from the front of each station's part
pub record AreFromLeft (before after : InboxEnded) (items : List Arrived) : Type 0 where
  pub parts : (station : ℕ) → left_of before station ≡ of_station station items ++ left_of after station
  pub count : before.left ≡ length items + after.left

-- the items stand behind the first ones, as they were left in the inbox
pub record HasTakenLeft (before after : InboxEnded) (first : List Arrived) (items : List Arrived) : Type 0 where
  pub more : List Arrived
  pub items_are : items ≡ first ++ more
  pub from : AreFromLeft before after more

-- what came of an item and of those that were left behind it
pub record HasKeptBatch (sc : SchemeValue) (old new : Standing OutboxValue) (first : Arrived) (before after : InboxEnded) (tally_old tally_new : Tally) (halt : Option Halt) : Type 0 where
  pub more : List Arrived
  pub from : AreFromLeft before after more
  pub kept : HasKept sc old new (first ∷ more) tally_old tally_new halt
