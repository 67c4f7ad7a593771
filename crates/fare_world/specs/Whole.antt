-- What is seen of a world, and what its calls do.
use Rattle.std.specs.Prelude.{Bool, false, Ok, Err, ◌≡◌, ◌+◌, ◌≤◌, ℕ, ◌⊎◌, true, nat_lt, List, [], ◌++◌, map, filter, take, length, Option, None, Some, option_map, Result, MatchResult, slice_get}
use Rattle.fare_record.specs.Values.{RecordValue}
use Rattle.fare_record.specs.Lanes.{part, lane_of}
use Rattle.fare_record.specs.declared.item.Item.{Item}
use Rattle.fare_scheme.specs.Values.{SchemeValue}
use Rattle.fare_scheme.specs.Words.{position_of_device, position_of_station, position_of_owner}
use Rattle.fare_collector.specs.Collecting.{next_in}
use Rattle.fare_device.specs.DeviceWords.{DeviceValue}
use Rattle.fare_store.specs.declared.fault.Fault.{Fault}
use Rattle.fare_store.specs.declared.fault.Fault.TheVariants as fault
use Rattle.fare_store.specs.declared.fault.Refused.{Refused}
use Rattle.fare_store.specs.declared.fault.Refused.TheVariants as refused
use Rattle.fare_store.specs.Standing.{Standing, fault_in}
use Rattle.fare_store.specs.OutboxWords.{OutboxValue}
use Rattle.fare_store.specs.LedgerWords.{LedgerValue}
use Rattle.fare_event.specs.declared.event.Event.{Event}
use Rattle.fare_event.specs.declared.reply.Reply.{Reply}
use Rattle.fare_side.specs.declared.owner.Owner.{Owner}
use Rattle.fare_side.specs.declared.station.Station.{Station}
use Rattle.fare_world.specs.declared.world.World.{World}
use Rattle.fare_world.specs.System.{System}
use Rattle.fare_side.specs.Answering.{Answered}
use Rattle.fare_side.specs.Resuming.{place_of_cursor}
use Rattle.fare_world.specs.Restarts.{Paired, Rose, Failed}
use Rattle.fare_world.specs.Steps.{step, after, replies, may_fail}
use Rattle.fare_world.specs.Headline.{numbered, IsPrefixOf}
use Rattle.fare_world.specs.Shown.{entry, StationShape, OwnerShape, Shape, Shows}

-- WHAT IS SEEN
-- the parts of a world, with what its stores hold
pub record Seen : Type 0 where
  pub scheme : SchemeValue
  pub devices : List DeviceValue
  pub stations : List Station
  pub air : List (List ℕ)
  pub inbox : List Item
  pub hand : Option Item
  pub outbox : OutboxValue
  pub owners : List OwnerShape

-- the same by ids
abbrev pub station_shape : Station → StationShape
station_shape x = record { nexts = next_in x.collector; line = x.line.items }

abbrev pub shape : Seen → Shape
shape w = record {
  devices = λ device. entry (position_of_device w.scheme device) w.devices;
  stations = λ station. option_map station_shape (entry (position_of_station w.scheme station) w.stations);
  air = w.air;
  inbox = w.inbox;
  hand = w.hand;
  outbox = w.outbox;
  owners = λ owner. entry (position_of_owner w.scheme owner) w.owners;
}

-- the owner at a place has this in its hand
abbrev pub Holds : {O L : Type 0} → World O L → ℕ → Item → Type 0
Holds {O} {L} w at i = (x : Owner L) → slice_get w.owners.items at ≡ Some x → x.hand ≡ Some i

-- an owner's side, with what its ledger holds
module _ {L : Type 0} (ledger : L → Standing LedgerValue) where
  abbrev pub owner_seen : Owner L → OwnerShape
  owner_seen x = record { ledger = (ledger x.ledger).value; queue = x.queue.items; hand = x.hand; cursors = place_of_cursor x.forwarder }

-- it is refused by name
abbrev pub is_named : {V R : Type 0} → Result V (Refused R) → Bool
is_named (Ok answer) = false
is_named (Err (refused.Because why)) = true
is_named (Err (refused.Failed f)) = false

module _ {O L : Type 0} (outbox : O → Standing OutboxValue) (ledger : L → Standing LedgerValue) where
  abbrev pub seen : World O L → Seen
  seen w = record {
    scheme = w.scheme;
    devices = w.devices.items;
    stations = w.stations.items;
    air = w.air.items;
    inbox = w.inbox.items;
    hand = w.hand;
    outbox = (outbox w.outbox).value;
    owners = map (owner_seen ledger) w.owners.items;
  }

  -- THE STORES
  -- a fact of each store
  pub record EachStore (P : Standing OutboxValue → Type 0) (Q : Standing LedgerValue → Type 0) (w : World O L) : Type 0 where
    pub outbox_is : P (outbox w.outbox)
    pub ledgers_are : (k : ℕ) (x : Owner L) → slice_get w.owners.items k ≡ Some x → Q (ledger x.ledger)

  -- each has kept what was committed, and no failure has shut it
  abbrev pub AreLive : World O L → Type 0
  AreLive w = EachStore (λ s. s.live) (λ s. s.live) w

  abbrev pub AreClean : World O L → Type 0
  AreClean w = EachStore (λ s. s.clean) (λ s. s.clean) w

  abbrev pub AreLawful : World O L → Type 0
  AreLawful w = EachStore (λ s. s.lawful) (λ s. s.lawful) w

  -- a failure of some store was counted
  abbrev pub CountsFailure : World O L → World O L → Type 0
  CountsFailure old new = Rose (outbox old.outbox).failures (outbox new.outbox).failures ⊎ Failed ledger old.owners.items new.owners.items

  -- no failure of a store was counted
  pub record SameCounts (old new : World O L) : Type 0 where
    pub outbox_same : (outbox new.outbox).failures ≡ (outbox old.outbox).failures
    pub ledgers_same : Paired (λ x y. (ledger y.ledger).failures ≡ (ledger x.ledger).failures) old.owners.items new.owners.items

  -- the stores after an event
  pub record Follows (old new : World O L) (faulted : Option Fault) : Type 0 where
    pub live : AreLive new → AreLive old
    pub clean : AreClean new → AreClean old
    pub stays : faulted ≡ None → AreLive old → AreClean new → AreLive new
    pub counts : (faulted ≡ Some fault.Store → ⊥) → SameCounts old new
    pub cause : faulted ≡ Some fault.Store → CountsFailure old new

  -- THE WORLD
  -- as far as its stores are live: they are lawful, and the world stands at this system
  pub record StandsAt (w : World O L) (s : System) : Type 0 where
    pub lawful : AreLive w → AreLawful w
    pub shows : AreLive w → Shows w.scheme (shape (seen w)) s

  -- one event: at whatever system the world stood, the world stands at the system after it, and while its stores are live the reply is the step's
  pub record IsStepped (old new : World O L) (e : Event) (r : Reply) : Type 0 where
    pub scheme : new.scheme ≡ old.scheme
    pub reply : (s : System) → StandsAt old s → AreLive new → r ≡ (step old.scheme s e).1
    pub stands : (s : System) → StandsAt old s → StandsAt new (step old.scheme s e).0
    pub stores : Follows old new None

  -- an event that failed: it is one that may, and nothing that is seen of the world has changed, as far as its stores are live
  pub record IsUnchanged (old new : World O L) (e : Event) (f : Fault) : Type 0 where
    pub scheme : new.scheme ≡ old.scheme
    pub fails : (s : System) → StandsAt old s → AreLive new → may_fail old.scheme s e ≡ true
    pub seen_is : AreLive new → AreLawful old → AreLawful new × (shape (seen new) ≡ shape (seen old))
    pub stores : Follows old new (Some f)

  abbrev pub Applied : World O L → World O L → Event → Result Reply Fault → Type 0
  Applied old new e result = MatchResult result (IsStepped old new e) (IsUnchanged old new e)

  -- a question: it is answered, or refused by name, as told at whatever system the world stood; an answer or a fault comes only where it may; and nothing that is seen of the world has changed, as far as its stores are live
  pub record Asks {V R : Type 0} (old new : World O L) (tells : System → Result V R → Type 0) (may : Bool) (result : Result V (Refused R)) : Type 0 where
    pub scheme : new.scheme ≡ old.scheme
    pub answer : (s : System) → StandsAt old s → AreLive new → Answered (tells s) result
    pub asked : is_named result ≡ false → may ≡ true
    pub seen_is : AreLive new → AreLawful old → AreLawful new × (shape (seen new) ≡ shape (seen old))
    pub stores : Follows old new (fault_in result)

  -- what a part of an event did, where the system meets a condition
  pub record Does (old new : World O L) (condition : System → Type 0) (change : System → System × Reply) (r : Reply) : Type 0 where
    pub scheme : new.scheme ≡ old.scheme
    pub reply : (s : System) → StandsAt old s → AreLive new → condition s → r ≡ (change s).1
    pub stands : (s : System) → StandsAt old s → (AreLive old → condition s) → StandsAt new (change s).0
    pub stores : Follows old new None

  -- why a run stopped: there was no memory for its replies before its first event, or the event after those that were answered failed, as it may
  abbrev pub StopsWhere : SchemeValue → System → List Event → List Reply → Fault → Type 0
  StopsWhere sc s events answered f =
      ((answered ≡ []) × (f ≡ fault.Memory))
      ⊎ ((e : Event) × (slice_get events (length answered) ≡ Some e) × (may_fail sc (after sc s (take (length answered) events)) e ≡ true))

  -- what a run of events did, up to the event at which it was stopped: at whatever system the world stood, the replies and the system after are those of the events before it
  pub record WasStopped (old new : World O L) (events : List Event) (answered : List Reply) (f : Fault) : Type 0 where
    pub scheme : new.scheme ≡ old.scheme
    pub within : length answered ≤ length events
    pub answers : (s : System) → StandsAt old s → AreLive new → answered ≡ replies old.scheme s (take (length answered) events)
    pub stands : (s : System) → StandsAt old s → StandsAt new (after old.scheme s (take (length answered) events))
    pub fails : (s : System) → StandsAt old s → AreLive new → StopsWhere old.scheme s events answered f
    pub live : AreLive new → AreLive old
    pub clean : AreClean new → AreClean old
    pub cause : f ≡ fault.Store → CountsFailure old new

  -- the same where nothing stopped it: clean stores are still live
  pub record HasRun (old new : World O L) (events : List Event) (answered : List Reply) : Type 0 where
    pub scheme : new.scheme ≡ old.scheme
    pub within : length answered ≤ length events
    pub answers : (s : System) → StandsAt old s → AreLive new → answered ≡ replies old.scheme s (take (length answered) events)
    pub stands : (s : System) → StandsAt old s → StandsAt new (after old.scheme s (take (length answered) events))
    pub live : AreLive new → AreLive old
    pub clean : AreClean new → AreClean old
    pub stays : AreLive old → AreClean new → AreLive new
    pub counts : SameCounts old new

module _ {O L : Type 0} (ledger : L → Standing LedgerValue) where
  -- what each owner has taken from each device, as its ledger tells, is where the list begins that the device numbered for the owner, as the events and their replies tell
  abbrev pub TakenInOrder : World O L → List Event → List Reply → Type 0
  TakenInOrder w events answered =
      (owner device k : ℕ) (x : Owner L) → position_of_owner w.scheme owner ≡ Some k → slice_get w.owners.items k ≡ Some x
      → IsPrefixOf ((ledger x.ledger).value.taken device) (lane_of owner device (numbered w.scheme events answered))

-- the taps with a link above this one
abbrev pub beyond : ℕ → List RecordValue → List RecordValue
beyond upto rs = filter (λ r. nat_lt upto r.link) rs

-- the rows of a lane from this lane number on, one by one, and none after them
abbrev pub AreRowsFrom : (ℕ → Option RecordValue) → ℕ → List RecordValue → Type 0
AreRowsFrom rows first held = (k : ℕ) → rows (first + k) ≡ slice_get held k

-- each tap that a device numbered for an owner, as the events and their replies tell, is in one of three places, in this order: the owner's ledger has taken it, or the outbox holds its row behind those, or it waits in the device with a link above what the outbox has had
abbrev pub KeepsLane : List RecordValue → List RecordValue → (ℕ → Option RecordValue) → ℕ → List RecordValue → ℕ → Type 0
KeepsLane numbered taken rows upto waiting owner =
    (held : List RecordValue) × AreRowsFrom rows (length taken + 1) held × (numbered ≡ taken ++ (held ++ part owner (beyond upto waiting)))

module _ {O L : Type 0} (outbox : O → Standing OutboxValue) (ledger : L → Standing LedgerValue) where
  abbrev pub KeepsEachTap : World O L → List Event → List Reply → Type 0
  KeepsEachTap w events answered =
      (owner device k j : ℕ) (x : Owner L) (v : DeviceValue) → position_of_owner w.scheme owner ≡ Some k → slice_get w.owners.items k ≡ Some x → position_of_device w.scheme device ≡ Some j → slice_get w.devices.items j ≡ Some v
      → KeepsLane (lane_of owner device (numbered w.scheme events answered)) ((ledger x.ledger).value.taken device) ((outbox w.outbox).value.rows owner device) ((outbox w.outbox).value.upto device) v.waiting owner
