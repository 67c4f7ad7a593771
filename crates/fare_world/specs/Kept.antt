-- A system that events lead to.
use Rattle.std.specs.Prelude.{◌≡◌, ℕ, ◌+◌, ◌<◌, ◌≤◌, ◌==◌, Bool, true, false, List, [], ◌∷◌, length, take, Option, Some, None, slice_get, if◌then◌else◌, IsSome, IfSome, ◌⊎◌}
use Rattle.std.specs.List.{AllByRecursion}
use Rattle.fare_record.specs.Values.{RecordValue}
use Rattle.fare_record.specs.Lanes.{part, day_count}
use Rattle.fare_scheme.specs.Values.{SchemeValue}
use Rattle.fare_scheme.specs.Words.{owner_of, station_of}
use Rattle.fare_world.specs.System.{Packet, Tapped, Stated, Acked, DayAcked, Arrived, Tap_of, Statement_of, Answer, Ack_of, DayAck_of, Routed, Lane_of, Day_of, DeviceState, OwnerState, LaneState, System, numbered_for, arrived_of}
use Rattle.fare_side.specs.OpenDays.{is_closed}
use Rattle.fare_world.specs.Knowing.{knows_owner}
use Rattle.fare_world.specs.Tapping.{is_waiting}
use Rattle.fare_world.specs.Storing.{are_all_held}

-- DEVICES
-- a tap that has its place in the device's list, from 1, and the owner of its product
pub record IsNumbered (sc : SchemeValue) (device : ℕ) (taps : List RecordValue) (place : ℕ) (r : RecordValue) : Type 0 where
  pub of_device : r.device ≡ device
  pub link : r.link ≡ place + 1
  pub lane : r.lane ≡ length (part r.owner (take place taps)) + 1
  pub owned : owner_of sc r.tap.product ≡ Some r.owner

-- from the first day to the open one
pub record IsDated (start current : ℕ) (r : RecordValue) : Type 0 where
  pub first : start ≤ r.tap.day
  pub last : r.tap.day ≤ current

-- a day that the device has turned
pub record IsTurned (start current day : ℕ) : Type 0 where
  pub first : start ≤ day
  pub past : day < current

-- a device's days: its open day is one that there is, if the first is, its taps are of it or of days before it, and the waiting ones were turned
pub record AreDays (start current : ℕ) (taps : List RecordValue) (days : List ℕ) : Type 0 where
  pub first : start ≤ current
  pub last : start ≤ 100000 → current ≤ 100000
  pub dated : AllByRecursion (IsDated start current) taps
  pub waiting : AllByRecursion (IsTurned start current) days
  pub few : length days ≤ 8

-- what was acknowledged was stored, what was stored was numbered, and one that is not registered has numbered nothing
pub record IsDevice (sc : SchemeValue) (device : ℕ) (v : DeviceState) : Type 0 where
  pub base : v.base ≤ v.cursor
  pub cursor : v.cursor ≤ length v.taps
  pub stored : v.base ≤ v.upto
  pub upto : v.upto ≤ length v.taps
  pub first : 1 ≤ v.next
  pub next : v.next ≤ length v.taps + 1
  pub few : length v.taps ≤ 1099511627775
  pub numbered : (place : ℕ) (r : RecordValue) → slice_get v.taps place ≡ Some r → IsNumbered sc device v.taps place r
  pub known : station_of sc device ≡ None → v.taps ≡ []
  pub days : AreDays sc.start v.day v.taps v.waiting

-- WHAT IS ON ITS WAY
-- a number of some tap in the list
abbrev pub IsPlace : List RecordValue → ℕ → Type 0
IsPlace rs n = (1 ≤ n) × (n ≤ length rs)

-- the outbox has had the taps of a registered device up to this link
abbrev pub IsAck : SchemeValue → (ℕ → DeviceState) → ℕ → ℕ → Type 0
IsAck sc devices device upto = IsSome (station_of sc device) × (upto ≤ (devices device).upto)

-- the outbox holds a registered device's statements of the day for all owners
abbrev pub IsDayAck : SchemeValue → (ℕ → ℕ → ℕ → Bool) → ℕ → ℕ → Type 0
IsDayAck sc held device day = IsSome (station_of sc device) × (are_all_held sc held device day ≡ true)

-- a statement of a day that a registered device has turned, for a registered owner: its count stays
pub record IsStatement (sc : SchemeValue) (devices : ℕ → DeviceState) (device day owner : ℕ) : Type 0 where
  pub registered : IsSome (station_of sc device)
  pub known : knows_owner sc owner ≡ true
  pub turned : IsTurned sc.start (devices device).day day

abbrev pub IsPacket : SchemeValue → (ℕ → DeviceState) → (ℕ → ℕ → ℕ → Bool) → Packet → Type 0
IsPacket sc devices held (Tapped device link) = IsPlace (devices device).taps link
IsPacket sc devices held (Stated device day owner) = IsStatement sc devices device day owner
IsPacket sc devices held (Acked device upto) = IsAck sc devices device upto
IsPacket sc devices held (DayAcked device day) = IsDayAck sc held device day

abbrev pub IsAnswer : SchemeValue → (ℕ → DeviceState) → (ℕ → ℕ → ℕ → Bool) → Answer → Type 0
IsAnswer sc devices held (Ack_of device upto) = IsAck sc devices device upto
IsAnswer sc devices held (DayAck_of device day) = IsDayAck sc held device day

abbrev pub IsArrived : SchemeValue → (ℕ → DeviceState) → Arrived → Type 0
IsArrived sc devices (Tap_of device link) = IsPlace (devices device).taps link
IsArrived sc devices (Statement_of device day owner) = IsStatement sc devices device day owner

-- the lane number of a tap that the outbox has had, or the day of a statement that it holds
abbrev pub IsRouted : (ℕ → DeviceState) → (ℕ → ℕ → ℕ → Bool) → ℕ → Routed → Type 0
IsRouted devices held owner (Lane_of device lane) = IsPlace (arrived_of owner (devices device)) lane
IsRouted devices held owner (Day_of device day) = held owner device day ≡ true

pub record IsOwner (devices : ℕ → DeviceState) (held : ℕ → ℕ → ℕ → Bool) (owner : ℕ) (w : OwnerState) : Type 0 where
  pub queue : AllByRecursion (IsRouted devices held owner) w.queue
  pub hand : IfSome w.hand (IsRouted devices held owner)

-- LANES
-- what an owner has not taken yet of what the forwarder gave it: its hand, then its queue
abbrev pub behind : Option Routed → List Routed → List Routed
behind None queue = queue
behind (Some x) queue = x ∷ queue

abbrev pub pending : OwnerState → List Routed
pending w = behind w.hand w.queue

-- the lane numbers of a device's taps among these
abbrev pub lane_numbers : ℕ → List Routed → List ℕ
lane_numbers device [] = []
lane_numbers device (Lane_of other lane ∷ xs) = if other == device then lane ∷ lane_numbers device xs else lane_numbers device xs
lane_numbers device (Day_of other day ∷ xs) = lane_numbers device xs

-- the numbers after one up to another, with no gap
abbrev pub Runs : ℕ → List ℕ → ℕ → Type 0
Runs first [] last = first ≡ last
Runs first (n ∷ ns) last = (n ≡ first + 1) × Runs (first + 1) ns last

-- a lane, by what was numbered, how many of these the outbox has had, the statements that it holds, and the lane numbers that its owner has not taken yet, which follow one another unless the lane is retired
pub record IsLane (start : ℕ) (numbered : List RecordValue) (arrived : ℕ) (held : ℕ → Bool) (coming : List ℕ) (l : LaneState) : Type 0 where
  pub gone : l.gone ≤ l.took
  pub took : l.took ≤ l.forward
  pub run : l.retired ≡ false → Runs l.took coming l.forward
  pub forward : l.forward ≤ arrived
  pub stated : (day : ℕ) → l.stated day ≡ true → held day ≡ true
  pub closed : (day : ℕ) → is_closed start l.closed day ≡ true → l.stated day ≡ true
  pub counted : (day : ℕ) → is_closed start l.closed day ≡ true → day_count (take l.took numbered) day ≡ day_count numbered day

pub record IsSystem (sc : SchemeValue) (s : System) : Type 0 where
  pub devices : (device : ℕ) → IsDevice sc device (s.devices device)
  pub air : AllByRecursion (IsPacket sc s.devices s.held) s.air
  pub inbox : AllByRecursion (IsArrived sc s.devices) s.inbox
  pub hand : IfSome s.hand (IsArrived sc s.devices)
  pub held : (owner device day : ℕ) → s.held owner device day ≡ true → IsStatement sc s.devices device day owner
  pub rows : s.rows ≤ 1000000
  pub statements : s.statements ≤ 1000000
  pub lines : (station : ℕ) → AllByRecursion (IsAnswer sc s.devices s.held) (s.lines station)
  pub owners : (owner : ℕ) → IsOwner s.devices s.held owner (s.owners owner)
  pub lanes : (owner device : ℕ) → IsLane sc.start (numbered_for s owner device) (length (arrived_of owner (s.devices device))) (s.held owner device) (lane_numbers device (pending (s.owners owner))) (s.lanes owner device)

-- NO STATEMENT IS LOST
-- each day that a registered device has turned waits, or the outbox holds its statements for all owners
abbrev pub KeepsEachDay : SchemeValue → System → Type 0
KeepsEachDay sc s =
    (device day : ℕ) → IsSome (station_of sc device) → IsTurned sc.start (s.devices device).day day → (is_waiting (s.devices device).waiting day ≡ true) ⊎ (are_all_held sc s.held device day ≡ true)
