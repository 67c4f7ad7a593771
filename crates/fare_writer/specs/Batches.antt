-- What the writer does with several items at once.
use Rattle.std.specs.Prelude.{◌≡◌, ◌⊎◌, ℕ, ◌≤◌, List, [], ◌∷◌, ◌++◌, length, map, take, Result, Ok, Err, Option, None}
use Rattle.std.specs.List.{AllByRecursion}
use Rattle.fare_record.specs.Values.{RecordValue}
use Rattle.fare_record.specs.declared.ack_item.AckItem.{AckItem}
use Rattle.fare_record.specs.declared.ack_item.AckItem.TheVariants.{Upto}
use Rattle.fare_record.specs.declared.item.Item.TheVariants as item
use Rattle.fare_scheme.specs.Values.{SchemeValue}
use Rattle.fare_store.specs.Standing.{Standing}
use Rattle.fare_store.specs.Standing as store
use Rattle.fare_store.specs.OutboxWords.{OutboxValue}
use Rattle.fare_store.specs.declared.fault.Fault.{Fault}
use Rattle.fare_history.specs.Gathering.{AreNew, HasFirst, storing_all, unanswered}
use Rattle.fare_session.specs.Stores.{Called}
use Rattle.fare_inbox_queue.specs.InboxPasses.{taken_list}
use Rattle.fare_inbox_queue.specs.declared.arrived.Arrived.{Arrived}
use Rattle.fare_inbox_queue.specs.declared.arrived.Arrived.TheVariants.{Tap, Stated}
use Rattle.fare_inbox_queue.specs.declared.inbox_passes.WriterPass.{WriterPass}
use Rattle.fare_writer.specs.Entries.{item_of, Entry, items_of, in_hand}
use Rattle.fare_writer.specs.declared.halt.Halt.{Halt}
use Rattle.fare_writer.specs.declared.teller.Teller.{Teller}
use Rattle.fare_writer.specs.declared.tally.Tally.{Tally}
use Rattle.fare_writer.specs.Handling.{HaveBeenTold, HasWritten}

-- TAKING
-- the items stand behind the first one, in the order in which they were taken
pub record HasTakenMore (old new : WriterPass) (first : List Arrived) (items : List Arrived) : Type 0 where
  pub more : List Arrived
  pub items_are : items ≡ first ++ more
  pub took : taken_list new ≡ taken_list old ++ more

-- STORING
-- the first n of these items are the taps of these rows
pub record AreTaps (items : List Arrived) (rows : List RecordValue) (n : ℕ) : Type 0 where
  pub few : n ≤ length items
  pub same : map item_of (take n items) ≡ map item.Tap (take n rows)

-- the first n of these items are taps
pub record BeginWithTaps (items : List Arrived) (n : ℕ) : Type 0 where
  pub few : n ≤ length items
  pub rows : List RecordValue
  pub same : map item_of (take n items) ≡ map item.Tap rows

-- the outbox stored the first n of these items, each behind the ones before it
pub record AreStoredFirst (x : OutboxValue) (items : List Arrived) (n : ℕ) (y : OutboxValue) : Type 0 where
  pub new : AreNew x (map item_of (take n items))
  pub value : y ≡ storing_all x (unanswered (map item_of (take n items)))

abbrev pub StoredFirst : OutboxValue → OutboxValue → List Arrived → Result ℕ Fault → Type 0
StoredFirst old new items (Ok n) = AreStoredFirst old items n new
StoredFirst old new items (Err f) = new ≡ old

-- one call with the first of these items, or none: a failure may have committed some first part of them
abbrev pub StoresFirst : Standing OutboxValue → Standing OutboxValue → List Arrived → Result ℕ Fault → Type 0
StoresFirst old new items result = Called old new (store.fault_of result) (StoredFirst old.value new.value items result) (HasFirst old.value (map item_of items))

-- TELLING
-- with a tap its own link alone was acknowledged, and with a statement nothing
abbrev pub AreOwn : Arrived → List AckItem → Type 0
AreOwn (Tap station r) answers = AllByRecursion (λ a. a ≡ Upto (record { device = r.device; upto = r.link })) answers
AreOwn (Stated station s) answers = answers ≡ []

-- each line was told of its station's items among these
pub record HaveTold (sc : SchemeValue) (items : List Arrived) (old new : List Teller) : Type 0 where
  pub entries : List Entry
  pub items_are : items_of entries ≡ items
  pub own : AllByRecursion (λ (e : Entry). AreOwn e.item e.answers) entries
  pub told : HaveBeenTold sc entries old new

-- HALTING
-- the same halt, with the items behind it: where its hand is empty the first of them comes into it
pub record HaltsBefore (halt : Halt) (rest : List Arrived) (result : Halt) : Type 0 where
  pub behind : List Arrived
  pub items : in_hand halt.hand ++ rest ≡ in_hand result.hand ++ behind
  pub count : length behind ≡ result.behind
  pub alone : result.hand ≡ None → behind ≡ []
  pub few : length behind ≤ length rest
  pub fault : result.fault ≡ halt.fault
  pub hand : (halt.hand ≡ None) ⊎ (result.hand ≡ halt.hand)

-- A BATCH
-- what came of an item and of those that were taken behind it
pub record HasWrittenBatch (sc : SchemeValue) (old new : Standing OutboxValue) (first : Arrived) (writer_old writer_new : WriterPass) (tellers_old tellers_new : List Teller) (tally_old tally_new : Tally) (halt : Option Halt) : Type 0 where
  pub more : List Arrived
  pub took : taken_list writer_new ≡ taken_list writer_old ++ more
  pub written : HasWritten sc old new (first ∷ more) tellers_old tellers_new tally_old tally_new halt
