-- The events of an owner's session, and the system to which they lead.
use Rattle.std.specs.Prelude.{◌≡◌, ℕ, ◌==◌, false, List, [], ◌∷◌, ◌++◌, map, Option, None, Some}
use Rattle.std.specs.List.{AllByRecursion}
use Rattle.fare_record.specs.declared.item.Item.{Item}
use Rattle.fare_record.specs.declared.item.Item.TheVariants as item
use Rattle.fare_scheme.specs.Values.{SchemeValue}
use Rattle.fare_store.specs.OutboxWords.{OutboxValue}
use Rattle.fare_store.specs.LedgerWords.{LedgerValue}
use Rattle.fare_event.specs.declared.event.Event.{Event}
use Rattle.fare_event.specs.declared.event.Event.TheVariants as event
use Rattle.fare_world.specs.System.{Routed, Lane_of, Day_of, DeviceState, System}
use Rattle.fare_world.specs.Kept.{IsSystem}
use Rattle.fare_world.specs.Shown.{IsRoutedOf}
use Rattle.fare_history.specs.Serving.{Cursors, IsNextItem, given_all, pruned_to_all, Service, in_hand, device_of}
use Rattle.fare_refinement.specs.ShownStores.{ShowsOutbox, ShowsLedger}

-- ITS EVENTS
-- the events of the taken items: each is put into the queue, drawn from it and taken
abbrev pub taken_events : ℕ → List Item → List Event
taken_events owner [] = []
taken_events owner (i ∷ is) = event.Forward owner (device_of i) ∷ event.Fetch owner ∷ event.Take owner ∷ taken_events owner is

-- those of the item in the hand: it is put and drawn
abbrev pub hand_events : ℕ → Option Item → List Event
hand_events owner None = []
hand_events owner (Some i) = event.Forward owner (device_of i) ∷ event.Fetch owner ∷ []

-- those of the items in the queue: each is put
abbrev pub queue_events : ℕ → List Item → List Event
queue_events owner [] = []
queue_events owner (i ∷ is) = event.Forward owner (device_of i) ∷ queue_events owner is

-- those of the lanes that were pruned
abbrev pub prune_events : ℕ → List ℕ → List Event
prune_events owner [] = []
prune_events owner (d ∷ ds) = event.Prune owner d ∷ prune_events owner ds

-- the events of the whole session, which begins with the owner's restart
abbrev pub service_events : ℕ → Service → List Event
service_events owner v = event.RestartOwner owner ∷ (taken_events owner v.taken ++ (hand_events owner v.hand ++ (queue_events owner v.queue ++ prune_events owner v.pruned)))

-- WHERE THEY LEAD
-- the numbers that stand for an item on its way to its owner
abbrev pub routed_of : Item → Routed
routed_of (item.Tap r) = Lane_of r.device r.lane
routed_of (item.Stated v) = Day_of v.device v.day

-- What stands there are the numbers of these items, in their order, and each item is the record or the statement that its numbers name.
pub record AreRouted (devices : ℕ → DeviceState) (owner : ℕ) (xs : List Routed) (items : List Item) : Type 0 where
  pub numbers : xs ≡ map routed_of items
  pub each : AllByRecursion (λ i. IsRoutedOf devices owner (routed_of i) i) items

-- The systems differ in nothing but this owner's part: its queue, its hand and its lanes.
pub record IsBeside (owner : ℕ) (s t : System) : Type 0 where
  pub devices : t.devices ≡ s.devices
  pub air : t.air ≡ s.air
  pub inbox : t.inbox ≡ s.inbox
  pub hand : t.hand ≡ s.hand
  pub held : t.held ≡ s.held
  pub statements : t.statements ≡ s.statements
  pub lines : t.lines ≡ s.lines
  pub owners : (other : ℕ) → (other == owner) ≡ false → t.owners other ≡ s.owners other
  pub lanes : (other : ℕ) → (other == owner) ≡ false → t.lanes other ≡ s.lanes other

-- what is in a hand, if anything is
abbrev pub hand_list : Option Routed → List Routed
hand_list None = []
hand_list (Some x) = x ∷ []

-- The session leads from the system s to t: t is one that events lead to, it shows the outbox and the ledger as the session leaves them, its hand and its queue are what is left, and beside the owner's part it is s.
pub record IsServed (sc : SchemeValue) (owner : ℕ) (x : OutboxValue) (l : LedgerValue) (v : Service) (s t : System) : Type 0 where
  pub system : IsSystem sc t
  pub outbox : ShowsOutbox t (pruned_to_all x owner (given_all l v.taken) v.pruned)
  pub ledger : ShowsLedger sc t owner (given_all l v.taken)
  pub hand : AreRouted t.devices owner (hand_list (t.owners owner).hand) (in_hand v.hand)
  pub queue : AreRouted t.devices owner (t.owners owner).queue v.queue
  pub beside : IsBeside owner s t

-- Some item comes next of the outbox, and these are its numbers.
pub record ComesNext (owner : ℕ) (x : OutboxValue) (c : Cursors) (y : Routed) : Type 0 where
  pub item : Item
  pub numbers : routed_of item ≡ y
  pub next : IsNextItem owner x c item

-- The owner's forwarder in the system has come so far with each device.
pub record IsAsFar (s : System) (owner : ℕ) (c : Cursors) : Type 0 where
  pub lane : (device : ℕ) → (s.lanes owner device).forward ≡ c.lane device
  pub day : (device : ℕ) → (s.lanes owner device).from_day ≡ c.day device
