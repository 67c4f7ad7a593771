-- The lengths of a world's tables, and where a device's station stands in them.
use Rattle.std.specs.Prelude.{◌≡◌, ℕ, List, Some, IsSome, length, slice_get}
use Rattle.fare_record.specs.Limits.{IsDay}
use Rattle.fare_scheme.specs.Values.{SchemeValue}
use Rattle.fare_scheme.specs.Words.{station_of, lane_capacity_of, position_of_device, position_of_station, position_of_owner}
use Rattle.fare_device.specs.DeviceWords.{DeviceValue}
use Rattle.fare_route.specs.declared.forwarder.Forwarder.{Forwarder}
use Rattle.fare_route.specs.Routing.{cursor_of}
use Rattle.fare_side.specs.declared.owner.Owner.{Owner}
use Rattle.fare_side.specs.declared.station.Station.{Station}

-- a device's station is at this place
pub record HasStation (sc : SchemeValue) (device place : ℕ) : Type 0 where
  pub station : ℕ
  pub of : station_of sc device ≡ Some station
  pub at : position_of_station sc station ≡ Some place

-- FORWARDERS
-- an owner's forwarder, which knows each device of the scheme
pub record IsForwarder (sc : SchemeValue) (place : ℕ) (f : Forwarder) : Type 0 where
  pub owner : position_of_owner sc f.owner ≡ Some place
  pub each : (device : ℕ) → IsSome (position_of_device sc device) → IsSome (cursor_of f device)

-- ROOMS
-- an owner's side: its lane queue is as long as the scheme says, and it has room for where its ledger stands
pub record HasOwnerRooms {L : Type 0} (sc : SchemeValue) (place : ℕ) (x : Owner L) : Type 0 where
  pub forwarder : IsForwarder sc place x.forwarder
  pub queue : lane_capacity_of sc x.forwarder.owner ≡ Some x.queue.capacity
  pub standings : length x.standings.items ≡ length sc.devices

-- the first day is one that there is, there is an entry for each device, for each station, for each owner, and for each lane, and the queues are as long as the scheme says
pub record HasRooms {L : Type 0} (sc : SchemeValue) (devices : List DeviceValue) (stations : List Station) (inbox : ℕ) (owners : List (Owner L)) (uptos : ℕ) : Type 0 where
  pub start : IsDay sc.start
  pub device_count : length devices ≡ length sc.devices
  pub station_count : length stations ≡ length sc.stations
  pub owner_count : length owners ≡ length sc.owners
  pub lanes : (k : ℕ) (x : DeviceValue) → slice_get devices k ≡ Some x → length x.lanes ≡ length sc.owners
  pub inbox_room : inbox ≡ sc.inbox_capacity
  pub lines : (k : ℕ) (x : Station) → slice_get stations k ≡ Some x → x.line.capacity ≡ sc.inbox_capacity
  pub sides : (k : ℕ) (x : Owner L) → slice_get owners k ≡ Some x → HasOwnerRooms sc k x
  pub upto_count : uptos ≡ length sc.devices
