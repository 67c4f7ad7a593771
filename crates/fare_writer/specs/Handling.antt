-- What the writer did with items, one after the other.
use Rattle.std.specs.Prelude.{◌≡◌, ℕ, ◌+◌, ◌≤◌, ◌/◌, ◌-◌, ◌<◌, min, Bool, List, [], ◌∷◌, ◌++◌, length, map, slice_index_or, Option, Some, None, if◌then◌else◌, fold}
use Rattle.fare_scheme.specs.Values.{SchemeValue}
use Rattle.fare_collector.specs.Collecting.{is_id}
use Rattle.fare_inbox_queue.specs.declared.arrived.Arrived.{Arrived}
use Rattle.fare_record.specs.declared.ack_item.AckItem.{AckItem}
use Rattle.fare_inbox_queue.specs.declared.ack_line.AckLine.{AckLine}
use Rattle.fare_inbox_queue.specs.LinePasses.{put_list, IsAckOf}
use Rattle.fare_writer.specs.declared.teller.Teller.{Teller}
use Rattle.fare_store.specs.Standing.{Standing}
use Rattle.fare_store.specs.OutboxWords.{OutboxValue}
use Rattle.fare_store.specs.declared.fault.Fault.{Fault}
use Rattle.fare_writer.specs.declared.fault.WriterFault.{WriterFault}
use Rattle.fare_writer.specs.declared.fault.WriterFault.TheVariants as writer
use Rattle.fare_writer.specs.declared.halt.Halt.{Halt}
use Rattle.fare_store.specs.Keys.{Key}
use Rattle.fare_writer.specs.declared.tally.Tally.{Tally}
use Rattle.fare_writer.specs.Noting.{noting}
use Rattle.fare_writer.specs.Entries.{item_of, Entry, items_of, in_hand, told_to, storing_all, new_count, IsRefused}
use Rattle.fare_writer.specs.Writing.{store_fault, Wrote}

-- each teller has the writer's pass of the line at its place
pub record AreTellers (lines : List AckLine) (tellers : List Teller) : Type 0 where
  pub len : length tellers ≡ length lines
  pub each : (k : ℕ) (l : AckLine) (d : Teller) → k < length tellers → IsAckOf (slice_index_or lines k l) (slice_index_or tellers k d).pass

-- what the line at a place was told, where it took the answer
abbrev pub told_if : Option ℕ → ℕ → AckItem → Bool → List AckItem
told_if place k item took = if took then (if is_id place k then item ∷ [] else []) else []

pub record HasTold (place : Option ℕ) (item : AckItem) (old new : List Teller) (took : Bool) : Type 0 where
  pub len : length new ≡ length old
  pub each : (k : ℕ) (d : Teller) → k < length old → put_list (slice_index_or new k d).pass ≡ put_list (slice_index_or old k d).pass ++ told_if place k item took

-- each line was told the answers of its station's items
pub record HaveBeenTold (sc : SchemeValue) (es : List Entry) (old new : List Teller) : Type 0 where
  pub len : length new ≡ length old
  pub each : (k : ℕ) (d : Teller) → k < length old → put_list (slice_index_or new k d).pass ≡ put_list (slice_index_or old k d).pass ++ told_to sc k es

abbrev pub hand_of : Option Halt → Option Arrived
hand_of None = None
hand_of (Some h) = h.hand

-- how many items of its batch stand behind the one in its hand
abbrev pub behind_of : Option Halt → ℕ
behind_of None = 0
behind_of (Some h) = h.behind

-- as many items are in a batch at most: half of what the inbox may hold, so that the queue has room for as many again
abbrev pub batch_of : SchemeValue → ℕ
batch_of sc = min 256 (sc.inbox_capacity - sc.inbox_capacity / 2)

abbrev pub fault_of : Option Halt → Option Fault
fault_of None = None
fault_of (Some h) = store_fault h.fault

-- where the writer ended since the outbox refused an item, it is the one in the hand
abbrev pub IsRefusedItem : OutboxValue → WriterFault → Option Arrived → Type 0
IsRefusedItem x writer.Refused None = ⊥
IsRefusedItem x writer.Refused (Some a) = IsRefused x a
IsRefusedItem x _ hand = Unit {0}

abbrev pub RefusedBy : OutboxValue → Option Halt → Type 0
RefusedBy x None = Unit {0}
RefusedBy x (Some h) = IsRefusedItem x h.fault h.hand

-- the days, with those that these items name
abbrev pub noting_all : SchemeValue → List Key → List Arrived → List Key
noting_all sc days items = fold (noting sc) days (map item_of items)

-- what came of these items, one after the other: some were stored, or had been before, and told; at its end the
-- writer may have one in its hand, and some of its batch behind it
pub record HasWritten (sc : SchemeValue) (old new : Standing OutboxValue) (items : List Arrived) (tellers_old tellers_new : List Teller) (tally_old tally_new : Tally) (halt : Option Halt) : Type 0 where
  pub entries : List Entry
  pub behind : List Arrived
  pub all : items ≡ items_of entries ++ (in_hand (hand_of halt) ++ behind)
  pub wrote : Wrote sc old new entries (in_hand (hand_of halt) ++ behind) (fault_of halt)
  pub behind_is : length behind ≡ behind_of halt
  pub alone : hand_of halt ≡ None → behind ≡ []
  pub few : length behind ≤ batch_of sc - 1
  pub told : HaveBeenTold sc entries tellers_old tellers_new
  pub refused : new.live → old.lawful → RefusedBy (storing_all old.value entries) halt
  pub counted : new.clean → old.live → old.lawful → min tally_new.stored 18446744073709551615 ≡ min (tally_old.stored + new_count old.value entries) 18446744073709551615
  pub noted : halt ≡ None → tally_new.days.keys ≡ noting_all sc tally_old.days.keys items
