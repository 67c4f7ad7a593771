-- What the parts of a world hold, where it stands at a system of numbers: each record anywhere is the device's record of its number, and each statement has its day's count.
use Rattle.std.specs.Prelude.{◌≡◌, ℕ, ◌-◌, ◌<◌, ◌≤◌, Bool, List, [], ◌∷◌, take, Option, Some, None, slice_get, option_and_then, IsSome, IfSome, nat_le, if◌then◌else◌}
use Rattle.std.specs.Map.{keys_of}
use Rattle.fare_record.specs.Values.{RecordValue, StatementValue}
use Rattle.fare_record.specs.Lanes.{part, day_count}
use Rattle.fare_record.specs.declared.item.Item.{Item}
use Rattle.fare_record.specs.declared.item.Item.TheVariants as item
use Rattle.fare_scheme.specs.Values.{SchemeValue}
use Rattle.fare_scheme.specs.Words.{buffer_of, position_of_device}
use Rattle.fare_device.specs.DeviceWords.{DeviceValue}
use Rattle.fare_device.specs.Numbered.{HasNumbered}
use Rattle.fare_frame.specs.Grammar.{frame_bytes, IsFrame}
use Rattle.fare_frame.specs.declared.frame.Frame.TheVariants as frame
use Rattle.fare_store.specs.OutboxWords.{OutboxValue}
use Rattle.fare_store.specs.LedgerWords.{LedgerValue, IsOfScheme}
use Rattle.fare_record.specs.declared.ack_item.AckItem.{AckItem}
use Rattle.fare_record.specs.declared.ack_item.AckItem.TheVariants as ack_item
use Rattle.fare_world.specs.System.{Packet, Tapped, Stated, Acked, DayAcked, Arrived, Tap_of, Statement_of, Answer, Ack_of, DayAck_of, Routed, Lane_of, Day_of, DeviceState, OwnerState, LaneState, System, arrived_of}
use Rattle.fare_world.specs.Arriving.{next_at}
use Rattle.fare_world.specs.Kept.{IsSystem}

-- THE PARTS
-- the row of a lane number, from 1, where the lane was pruned up to one
abbrev pub row_at : ℕ → List RecordValue → ℕ → Option RecordValue
row_at gone rows lane = if nat_le lane gone then None else slice_get rows (lane - 1)

-- the entry of an id, by its position
abbrev pub entry : {A : Type 0} → Option ℕ → List A → Option A
entry position xs = option_and_then (slice_get xs) position

-- a station's side of a world: the link that it accepts next from each device, and its acknowledgement line
pub record StationShape : Type 0 where
  pub nexts : ℕ → Option ℕ
  pub line : List AckItem

-- an owner's side of a world, with what its ledger holds, and how far its forwarder has come with each device: the lane number of the last tap, and the first day whose statement was not handed on
pub record OwnerShape : Type 0 where
  pub ledger : LedgerValue
  pub queue : List Item
  pub hand : Option Item
  pub cursors : ℕ → Option (ℕ × ℕ)

-- all that is seen of a world, by ids
pub record Shape : Type 0 where
  pub devices : ℕ → Option DeviceValue
  pub stations : ℕ → Option StationShape
  pub air : List (List ℕ)  -- the bytes of each packet
  pub inbox : List Item
  pub hand : Option Item
  pub outbox : OutboxValue
  pub owners : ℕ → Option OwnerShape

-- the two lists match, one by one
abbrev pub Each2 : {X Y : Type 0} → (X → Y → Type 0) → List X → List Y → Type 0
Each2 P [] [] = Unit {0}
Each2 P (x ∷ xs) (y ∷ ys) = P x y × Each2 P xs ys
Each2 P [] (y ∷ ys) = ⊥
Each2 P (x ∷ xs) [] = ⊥

-- the two match, where there is one
abbrev pub Both : {X Y : Type 0} → (X → Y → Type 0) → Option X → Option Y → Type 0
Both P None None = Unit {0}
Both P (Some x) (Some y) = P x y
Both P None (Some y) = ⊥
Both P (Some x) None = ⊥

-- the record of this number in a list
pub record IsAt (rs : List RecordValue) (n : ℕ) (r : RecordValue) : Type 0 where
  pub positive : 1 ≤ n
  pub here : slice_get rs (n - 1) ≡ Some r

-- a device's statement of a day for an owner: how many taps of the day it numbered for it
abbrev pub statement_of : (ℕ → DeviceState) → ℕ → ℕ → ℕ → StatementValue
statement_of devices device day owner = record { device = device; day = day; owner = owner; count = day_count (part owner (devices device).taps) day }

-- the statement of a day that the device has turned, so that its count stays
pub record IsStatementOf (devices : ℕ → DeviceState) (device day owner : ℕ) (x : StatementValue) : Type 0 where
  pub past : day < (devices device).day
  pub is : x ≡ statement_of devices device day owner

-- the count of a statement, where there is one
abbrev pub count_of : Bool → List RecordValue → ℕ → Option ℕ
count_of stated taps day = if stated then Some (day_count taps day) else None

-- PACKETS
-- the bytes are the frame of the tap of this number
pub record IsTapFrame (rs : List RecordValue) (n : ℕ) (bytes : List ℕ) : Type 0 where
  pub tap : RecordValue
  pub at : IsAt rs n tap
  pub lawful : IsFrame (frame.Tapped tap)
  pub spelled : bytes ≡ frame_bytes (frame.Tapped tap)

-- the bytes are the frame of this statement
pub record IsStatedFrame (devices : ℕ → DeviceState) (device day owner : ℕ) (bytes : List ℕ) : Type 0 where
  pub statement : StatementValue
  pub of : IsStatementOf devices device day owner statement
  pub lawful : IsFrame (frame.Stated statement)
  pub spelled : bytes ≡ frame_bytes (frame.Stated statement)

-- the bytes are the frame of this acknowledgement
pub record IsAckFrame (device upto : ℕ) (bytes : List ℕ) : Type 0 where
  pub lawful : IsFrame (frame.Acked (record { device = device; upto = upto }))
  pub spelled : bytes ≡ frame_bytes (frame.Acked (record { device = device; upto = upto }))

-- the bytes are the frame of this acknowledgement of a day's statements
pub record IsDayAckFrame (device day : ℕ) (bytes : List ℕ) : Type 0 where
  pub lawful : IsFrame (frame.DayAcked (record { device = device; day = day }))
  pub spelled : bytes ≡ frame_bytes (frame.DayAcked (record { device = device; day = day }))

abbrev pub IsPacketOf : (ℕ → DeviceState) → Packet → List ℕ → Type 0
IsPacketOf devices (Tapped device link) bytes = IsTapFrame (devices device).taps link bytes
IsPacketOf devices (Stated device day owner) bytes = IsStatedFrame devices device day owner bytes
IsPacketOf devices (Acked device upto) bytes = IsAckFrame device upto bytes
IsPacketOf devices (DayAcked device day) bytes = IsDayAckFrame device day bytes

-- ITEMS AND ANSWERS
abbrev pub IsAnswerOf : Answer → AckItem → Type 0
IsAnswerOf (Ack_of device upto) (ack_item.Upto a) = a ≡ record { device = device; upto = upto }
IsAnswerOf (DayAck_of device day) (ack_item.Day a) = a ≡ record { device = device; day = day }
IsAnswerOf x y = ⊥

abbrev pub IsArrivedOf : (ℕ → DeviceState) → Arrived → Item → Type 0
IsArrivedOf devices (Tap_of device link) (item.Tap r) = IsAt (devices device).taps link r
IsArrivedOf devices (Statement_of device day owner) (item.Stated x) = IsStatementOf devices device day owner x
IsArrivedOf devices x y = ⊥

abbrev pub IsRoutedOf : (ℕ → DeviceState) → ℕ → Routed → Item → Type 0
IsRoutedOf devices owner (Lane_of device lane) (item.Tap r) = IsAt (part owner (devices device).taps) lane r
IsRoutedOf devices owner (Day_of device day) (item.Stated x) = IsStatementOf devices device day owner x
IsRoutedOf devices owner x y = ⊥

-- THE WORLD
-- a device: what it numbered, and the turned days that wait
pub record IsDeviceOf (sc : SchemeValue) (device : ℕ) (v : DeviceState) (x : DeviceValue) : Type 0 where
  pub id : x.id ≡ device
  pub day : x.day ≡ v.day
  pub room : buffer_of sc device ≡ Some x.room
  pub base : x.base ≡ v.base
  pub cursor : x.cursor ≡ v.cursor
  pub owners : x.owners ≡ keys_of sc.owners
  pub days : keys_of x.days ≡ v.waiting
  pub numbered : HasNumbered v.taps x

pub record IsStationOf (sc : SchemeValue) (devices : ℕ → DeviceState) (station : ℕ) (line : List Answer) (x : StationShape) : Type 0 where
  pub nexts : (device : ℕ) → x.nexts device ≡ next_at sc devices station device
  pub waits : Each2 IsAnswerOf line x.line

-- a ledger is the owner's, of this scheme
pub record IsLedgerOf (sc : SchemeValue) (owner : ℕ) (v : LedgerValue) : Type 0 where
  pub id : v.owner ≡ owner
  pub made : IsOfScheme sc v

pub record IsOwnerOf (sc : SchemeValue) (devices : ℕ → DeviceState) (owner : ℕ) (w : OwnerState) (lanes : ℕ → LaneState) (x : OwnerShape) : Type 0 where
  pub ledger : IsLedgerOf sc owner x.ledger
  pub taken : (device : ℕ) → x.ledger.taken device ≡ take (lanes device).took (part owner (devices device).taps)
  pub stated : (device day : ℕ) → x.ledger.stated device day ≡ count_of ((lanes device).stated day) (part owner (devices device).taps) day
  pub closed : (device : ℕ) → x.ledger.closed device ≡ (lanes device).closed
  pub retired : (device : ℕ) → x.ledger.retired device ≡ (lanes device).retired
  pub queue : Each2 (IsRoutedOf devices owner) w.queue x.queue
  pub hand : Both (IsRoutedOf devices owner) w.hand x.hand
  pub cursors : (device : ℕ) (p : ℕ × ℕ) → IsSome (position_of_device sc device) → x.cursors device ≡ Some p → p ≡ ((lanes device).forward, (lanes device).from_day)

pub record Shows (sc : SchemeValue) (h : Shape) (s : System) : Type 0 where
  pub system : IsSystem sc s
  pub devices : (device : ℕ) → IfSome (h.devices device) (IsDeviceOf sc device (s.devices device))
  pub stations : (station : ℕ) → IfSome (h.stations station) (IsStationOf sc s.devices station (s.lines station))
  pub air : Each2 (IsPacketOf s.devices) s.air h.air
  pub inbox : Each2 (IsArrivedOf s.devices) s.inbox h.inbox
  pub hand : Both (IsArrivedOf s.devices) s.hand h.hand
  pub upto : (device : ℕ) → h.outbox.upto device ≡ (s.devices device).upto
  pub rows : (owner device lane : ℕ) → h.outbox.rows owner device lane ≡ row_at (s.lanes owner device).gone (arrived_of owner (s.devices device)) lane
  pub row_count : h.outbox.row_count ≡ s.rows
  pub stated : (owner device day : ℕ) → h.outbox.stated owner device day ≡ count_of (s.held owner device day) (part owner (s.devices device).taps) day
  pub stated_count : h.outbox.stated_count ≡ s.statements
  pub owners : (owner : ℕ) → IfSome (h.owners owner) (IsOwnerOf sc s.devices owner (s.owners owner) (s.lanes owner))
