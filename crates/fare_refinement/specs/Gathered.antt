-- The events of a session of the stations and the writer, and the system to which they lead.
use Rattle.std.specs.Prelude.{◌≡◌, ℕ, true, List, [], ◌∷◌, ◌++◌, length, map, filter, drop, Option, None, Some, unwrap_or}
use Rattle.std.specs.List.{AllByRecursion}
use Rattle.fare_record.specs.declared.ack_item.AckItem.{AckItem}
use Rattle.fare_record.specs.declared.ack_item.AckItem.TheVariants as ack_item
use Rattle.fare_record.specs.declared.item.Item.{Item}
use Rattle.fare_record.specs.declared.item.Item.TheVariants as item
use Rattle.fare_scheme.specs.Values.{SchemeValue}
use Rattle.fare_scheme.specs.Words.{station_of}
use Rattle.fare_collector.specs.Collecting.{is_id}
use Rattle.fare_store.specs.OutboxWords.{OutboxValue}
use Rattle.fare_store.specs.LedgerWords.{LedgerValue}
use Rattle.fare_event.specs.declared.event.Event.{Event}
use Rattle.fare_event.specs.declared.event.Event.TheVariants as event
use Rattle.fare_world.specs.System.{Packet, Tapped, Stated, Acked, DayAcked, Arrived, Tap_of, Statement_of, DeviceState, System}
use Rattle.fare_world.specs.Knowing.{knows_station}
use Rattle.fare_world.specs.Arriving.{packet_at}
use Rattle.fare_world.specs.Kept.{IsSystem}
use Rattle.fare_world.specs.Shown.{IsArrivedOf}
use Rattle.fare_history.specs.Gathering.{device_answered, answers_to, Entry, Gathering, all_answers, storing_all}
use Rattle.fare_refinement.specs.ShownStores.{ShowsOutbox, ShowsLedger}

-- FRAMES
-- an item that a station was given, with the number of the packet that it came in
pub record Given : Type 0 where
  pub packet : ℕ
  pub item : Item

-- the items without their packets
abbrev pub items : List Given → List Item
items [] = []
items (g ∷ gs) = g.item ∷ items gs

-- the packet that stands for an item in the air
abbrev pub packet_for : Item → Packet
packet_for (item.Tap r) = Tapped r.device r.link
packet_for (item.Stated v) = Stated v.device v.day v.owner

-- the numbers that stand for an item in the inbox
abbrev pub arrived_for : Item → Arrived
arrived_for (item.Tap r) = Tap_of r.device r.link
arrived_for (item.Stated v) = Statement_of v.device v.day v.owner

-- The system has sent the item: the packet of this number is the item's, and the item is the record or the statement that its numbers name.
pub record IsGiven (s : System) (g : Given) : Type 0 where
  pub sent : packet_at s g.packet ≡ Some (packet_for g.item)
  pub named : IsArrivedOf s.devices (arrived_for g.item) g.item

-- the system has sent the item as some packet
abbrev pub WasSent : System → Item → Type 0
WasSent s i = (packet : ℕ) × IsGiven s (record { packet = packet; item = i })

-- each device's station is registered
abbrev pub HasStations : SchemeValue → Type 0
HasStations sc = (device station : ℕ) → station_of sc device ≡ Some station → knows_station sc station ≡ true

-- the packet that an acknowledgement is sent as
abbrev pub packet_answered : AckItem → Packet
packet_answered (ack_item.Upto a) = Acked a.device a.upto
packet_answered (ack_item.Day a) = DayAcked a.device a.day

-- A SESSION
-- what the writer took and handled, with the number of its packet, and the acknowledgements that it put then
pub record SentEntry : Type 0 where
  pub given : Given
  pub answers : List AckItem

-- a session of the stations and the writer, where each item has the number of its packet
pub record SentGathering : Type 0 where
  pub entries : List SentEntry
  pub hand : Option Given
  pub inbox : List Given
  pub last : List AckItem

-- what these entries handled, in order
abbrev pub givens_of : List SentEntry → List Given
givens_of [] = []
givens_of (e ∷ es) = e.given ∷ givens_of es

-- what is in a hand, if anything is
abbrev pub hand_given : Option Given → List Given
hand_given None = []
hand_given (Some g) = g ∷ []

-- what was put into the inbox: what was handled, and then what is left
abbrev pub sent_by : SentGathering → List Given
sent_by g = givens_of g.entries ++ (hand_given g.hand ++ g.inbox)

-- the entries without the packets
abbrev pub told_entries : List SentEntry → List Entry
told_entries [] = []
told_entries (e ∷ es) = record { item = e.given.item; answers = e.answers } ∷ told_entries es

-- what is in a hand, without its packet
abbrev pub told_hand : Option Given → Option Item
told_hand None = None
told_hand (Some g) = Some g.item

-- the session without the packets
abbrev pub told_by : SentGathering → Gathering
told_by g = record { entries = told_entries g.entries; hand = told_hand g.hand; inbox = items g.inbox; last = g.last }

-- ITS EVENTS
-- the event at which an acknowledgement is put into its line
abbrev pub answer_event : AckItem → Event
answer_event (ack_item.Upto a) = event.Ack a.device
answer_event (ack_item.Day a) = event.DayAck a.device a.day

-- the events of these acknowledgements: each is put into the line of its device's station and sent from there
abbrev pub answer_events : SchemeValue → List AckItem → List Event
answer_events sc [] = []
answer_events sc (a ∷ more) = answer_event a ∷ event.Answer (unwrap_or (station_of sc (device_answered a)) 0) ∷ answer_events sc more

-- those of the handled items: each arrives, is drawn and stored, and is acknowledged
abbrev pub entry_events : SchemeValue → List SentEntry → List Event
entry_events sc [] = []
entry_events sc (e ∷ es) = event.Arrive e.given.packet ∷ event.Draw ∷ event.Store ∷ (answer_events sc e.answers ++ entry_events sc es)

-- those of the item in the hand: it arrives and is drawn
abbrev pub drawn_events : Option Given → List Event
drawn_events None = []
drawn_events (Some g) = event.Arrive g.packet ∷ event.Draw ∷ []

-- those of the items in the inbox: each arrives
abbrev pub inbox_events : List Given → List Event
inbox_events [] = []
inbox_events (g ∷ gs) = event.Arrive g.packet ∷ inbox_events gs

-- the events of the whole session, which begins with the hub's restart
abbrev pub gathering_events : SchemeValue → SentGathering → List Event
gathering_events sc g = event.RestartHub ∷ (entry_events sc g.entries ++ (drawn_events g.hand ++ (inbox_events g.inbox ++ answer_events sc g.last)))

-- WHERE THEY LEAD
-- What stands there are the numbers of these items, in their order, and each item is the record or the statement that its numbers name.
pub record HaveArrived (devices : ℕ → DeviceState) (xs : List Arrived) (gs : List Given) : Type 0 where
  pub numbers : xs ≡ map (λ g. arrived_for g.item) gs
  pub each : AllByRecursion (λ g. IsArrivedOf devices (arrived_for g.item) g.item) gs

-- what is in the writer's hand, if anything is
abbrev pub hand_arrived : Option Arrived → List Arrived
hand_arrived None = []
hand_arrived (Some x) = x ∷ []

-- the device of a packet
abbrev pub device_of_packet : Packet → ℕ
device_of_packet (Tapped d k) = d
device_of_packet (Stated d day o) = d
device_of_packet (Acked d u) = d
device_of_packet (DayAcked d day) = d

-- the packets to or from the devices of a station, in their order
abbrev pub packets_to : SchemeValue → ℕ → List Packet → List Packet
packets_to sc station ps = filter (λ p. is_id (station_of sc (device_of_packet p)) station) ps

-- The device has numbered the same taps and has the same open day.
pub record SameTaps (v w : DeviceState) : Type 0 where
  pub taps : w.taps ≡ v.taps
  pub day : w.day ≡ v.day

-- The session leads from the system s to t: t is one that events lead to and shows the outbox as the session leaves it; ledgers and the devices' taps are as they were; its hand and its inbox are what is left, the air gained the session's acknowledgements in their order, for each station those to its devices, and no line holds any.
pub record IsGathered (sc : SchemeValue) (x : OutboxValue) (g : SentGathering) (s t : System) : Type 0 where
  pub system : IsSystem sc t
  pub outbox : ShowsOutbox t (storing_all x (told_entries g.entries))
  pub ledgers : (owner : ℕ) (l : LedgerValue) → ShowsLedger sc s owner l → ShowsLedger sc t owner l
  pub hand : HaveArrived t.devices (hand_arrived t.hand) (hand_given g.hand)
  pub inbox : HaveArrived t.devices t.inbox g.inbox
  pub taps : (device : ℕ) → SameTaps (s.devices device) (t.devices device)
  pub air : t.air ≡ s.air ++ map packet_answered (all_answers (told_by g))
  pub heard : (station : ℕ) → packets_to sc station (drop (length s.air) t.air) ≡ map packet_answered (answers_to sc station (all_answers (told_by g)))
  pub lines : (station : ℕ) → t.lines station ≡ []
