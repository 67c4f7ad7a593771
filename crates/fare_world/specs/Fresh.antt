-- The parts of a new world.
use Rattle.std.specs.Prelude.{◌≡◌, ◌≤◌, ℕ, List, [], Some, None, length, map, slice_get, replicate, vec_capacity}
use Rattle.std.specs.Map.{keys_of}
use Rattle.fare_record.specs.Limits.{IsDay}
use Rattle.fare_scheme.specs.Values.{SchemeValue}
use Rattle.fare_scheme.specs.Words.{buffer_of, lane_capacity_of, position_of_device, position_of_station, position_of_owner}
use Rattle.fare_collector.specs.Collecting.{next_in, first_link}
use Rattle.circular_buffer.specs.Buffer.{buffer}
use Rattle.fare_device.specs.DeviceWords.{DeviceValue, fresh_device}
use Rattle.fare_route.specs.Routing.{cursor_of, started}
use Rattle.fare_side.specs.declared.owner.Owner.{Owner}
use Rattle.fare_side.specs.declared.station.Station.{Station}
use Rattle.fare_world.specs.declared.world.fresh.Side.{Side}
use Rattle.fare_world.specs.declared.world.fresh.Fresh.{Fresh}

-- the device at a position of the scheme, fresh
pub record IsFreshDevice (sc : SchemeValue) (k : ℕ) (x : DeviceValue) : Type 0 where
  pub at : position_of_device sc x.id ≡ Some k
  pub room : buffer_of sc x.id ≡ Some x.room
  pub fresh : x ≡ fresh_device x.id sc.start x.room (keys_of sc.owners)

pub record AreFreshDevices (sc : SchemeValue) (xs : List DeviceValue) : Type 0 where
  pub count : length xs ≡ length sc.devices
  pub each : (k : ℕ) (x : DeviceValue) → slice_get xs k ≡ Some x → IsFreshDevice sc k x

-- the station at a position of the scheme, which accepts link 1 next from each of its devices and has nothing to answer
pub record IsFreshStation (sc : SchemeValue) (k : ℕ) (x : Station) : Type 0 where
  pub at : position_of_station sc x.collector.station ≡ Some k
  pub nexts : (device : ℕ) → next_in x.collector device ≡ first_link sc x.collector.station device
  pub line : x.line ≡ buffer [] sc.inbox_capacity

pub record AreFreshStations (sc : SchemeValue) (xs : List Station) : Type 0 where
  pub count : length xs ≡ length sc.stations
  pub each : (k : ℕ) (x : Station) → slice_get xs k ≡ Some x → IsFreshStation sc k x

-- an owner's side, which has handed on nothing and has nothing to hand on, with room for where its ledger stands
pub record IsFreshSide (sc : SchemeValue) (x : Side) : Type 0 where
  pub room : lane_capacity_of sc x.forwarder.owner ≡ Some x.queue.capacity
  pub queue : x.queue.items ≡ []
  pub cursors : (device : ℕ) → cursor_of x.forwarder device ≡ started sc (replicate (length sc.devices) (0, None)) device
  pub standings : length x.standings.items ≡ length sc.devices

-- that of the owner at a position of the scheme
pub record IsSideAt (sc : SchemeValue) (k : ℕ) (x : Side) : Type 0 where
  pub at : position_of_owner sc x.forwarder.owner ≡ Some k
  pub fresh : IsFreshSide sc x

pub record AreFreshSides (sc : SchemeValue) (xs : List Side) : Type 0 where
  pub count : length xs ≡ length sc.owners
  pub each : (k : ℕ) (x : Side) → slice_get xs k ≡ Some x → IsSideAt sc k x

-- the parts of a new world, the room for its owners, and a first day that there is
pub record AreFresh {L : Type 0} (sc : SchemeValue) (x : Fresh L) : Type 0 where
  pub start : IsDay sc.start
  pub devices : AreFreshDevices sc x.devices.items
  pub stations : AreFreshStations sc x.stations.items
  pub sides : AreFreshSides sc x.sides.items
  pub inbox : x.inbox ≡ buffer [] sc.inbox_capacity
  pub uptos : length x.uptos.items ≡ length sc.devices
  pub none : x.owners.items ≡ []
  pub room : length sc.owners ≤ vec_capacity x.owners

-- an owner's side, but for its ledger
abbrev pub side_of : {L : Type 0} → Owner L → Side
side_of x = record { queue = x.queue; forwarder = x.forwarder; standings = x.standings }

-- the owners of these sides and ledgers, in order, with nothing in their hands
pub record AreJoined {L : Type 0} (sides : List Side) (ledgers : List L) (owners : List (Owner L)) : Type 0 where
  pub sides_are : map side_of owners ≡ sides
  pub ledgers_are : map (λ x. x.ledger) owners ≡ ledgers
  pub hands : (k : ℕ) (x : Owner L) → slice_get owners k ≡ Some x → x.hand ≡ None
