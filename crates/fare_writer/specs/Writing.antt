-- What calls of the outbox, one for each item, made of it.
use Rattle.std.specs.Prelude.{◌≡◌, ◌⊎◌, true, Bool, Option, None, Some, Result, Ok, Err, IfOk, List, map}
use Rattle.fare_scheme.specs.Values.{SchemeValue}
use Rattle.fare_store.specs.Standing.{Standing, Counted}
use Rattle.fare_store.specs.Standing as store
use Rattle.fare_session.specs.Stores.{Called}
use Rattle.fare_store.specs.OutboxWords.{OutboxValue}
use Rattle.fare_store.specs.declared.fault.Fault.{Fault}
use Rattle.fare_store.specs.declared.fault.Fault.TheVariants as fault
use Rattle.fare_writer.specs.declared.fault.WriterFault.{WriterFault}
use Rattle.fare_writer.specs.declared.fault.WriterFault.TheVariants.{Refused, Memory, Store}
use Rattle.fare_inbox_queue.specs.declared.arrived.Arrived.{Arrived}
use Rattle.fare_history.specs.Gathering.{HasFirst}
use Rattle.fare_writer.specs.Entries.{item_of, is_new, done_by, IsRepeated, IsRefused, storing, Entry, storing_all, AreEntries}

-- the store's own fault
abbrev pub store_fault : WriterFault → Option Fault
store_fault Refused = None
store_fault Memory = Some fault.Memory
store_fault Store = Some fault.Store

abbrev pub as_writer : Fault → WriterFault
as_writer fault.Memory = Memory
as_writer fault.Store = Store

abbrev pub fault_of : {A : Type 0} → Result A WriterFault → Option Fault
fault_of (Ok a) = None
fault_of (Err f) = store_fault f

-- what one call with an item did: true where it was stored, false where it had been before
abbrev pub Put : OutboxValue → OutboxValue → Arrived → Result Bool WriterFault → Type 0
Put old new a (Ok stored) = (stored ≡ is_new old a) × ((is_new old a ≡ true) ⊎ IsRepeated old a) × (new ≡ storing old a)
Put old new a (Err Refused) = IsRefused old a × (new ≡ old)
Put old new a (Err Memory) = new ≡ old
Put old new a (Err Store) = new ≡ old

abbrev pub Puts : Standing OutboxValue → Standing OutboxValue → Arrived → Result Bool WriterFault → Type 0
Puts old new a result = Called old new (fault_of result) (Put old.value new.value a result) (λ v. (is_new old.value a ≡ true) × (v ≡ done_by a old.value))

-- reads of the outbox, or none: an answer, and nothing changes
abbrev pub Asks : {A : Type 0} → Standing OutboxValue → Standing OutboxValue → (A → Type 0) → Result A Fault → Type 0
Asks old new answer result = Called old new (store.fault_of result) ((new.value ≡ old.value) × IfOk result answer) (λ v. ⊥)

-- what a stop may leave: all items, and the first of those that were tried
abbrev pub LeavesOutbox : OutboxValue → List Entry → List Arrived → OutboxValue → Type 0
LeavesOutbox x es tried v = HasFirst (storing_all x es) (map item_of tried) v

-- Calls one after the other: these items were stored, or had been before; at a fault there are perhaps some that the
-- last call had before it. Nothing is said of what an outbox holds that has not kept what was committed, or that a
-- failure has shut.
pub record Wrote (sc : SchemeValue) (old new : Standing OutboxValue) (entries : List Entry) (tried : List Arrived) (faulted : Option Fault) : Type 0 where
  pub value : new.live → old.lawful → new.lawful × (new.value ≡ storing_all old.value entries)
  -- as far as what was committed is kept, whether or not a failure has shut the outbox at the end
  pub known : new.clean → old.live → old.lawful → AreEntries sc old.value entries
  pub stop : new.clean → old.live → old.lawful → (v : OutboxValue) → new.may_leave v → LeavesOutbox old.value entries tried v
  -- where the outbox was shut before, a stop leaves what it could have left then
  pub shut : new.clean → (old.live → old.lawful) → (v : OutboxValue) → new.may_leave v → old.may_leave v ⊎ old.live
  pub lasts : new.clean → (old.live → old.lawful) → old.lasting → new.lasting
  pub clean : new.clean → old.clean
  pub live : new.live → old.live
  pub stays : faulted ≡ None → old.live → new.clean → new.live
  pub cause : Counted old.failures new.failures faulted
