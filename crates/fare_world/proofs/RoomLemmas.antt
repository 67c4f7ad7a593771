-- A world's tables keep their lengths, and its queues their room.
use Rattle.std.proofs.Common.{◌≡◌, ℕ, ◌<◌, ◌≤◌, Bool, true, false, List, length, set, get_or, Some, None, refl, sym, ap, ◌∙◌, subst, arith, length-set, inl, inr}
use Rattle.std.specs.Prelude.{nat_le, Option, Result, Ok, Err}
use Rattle.std.proofs.lemmas.Bool.Decides.{nat_tests}
use Rattle.circular_buffer.specs.Buffer.{Buffer}
use Rattle.fare_record.specs.declared.ack_item.AckItem.{AckItem}
use Rattle.fare_store.specs.declared.fault.Fault.{Fault}
use Rattle.fare_side.specs.Acknowledging.{line_after}
use Rattle.std.proofs.lemmas.Option.{slice_get_read}
use Rattle.fare_device.specs.DeviceWords.{DeviceValue}
use Rattle.fare_device.proofs.Places.{slice_get-set_cases}
use Rattle.fare_side.proofs.Positions.{set_cases}
use Rattle.fare_side.specs.declared.owner.Owner.{Owner}
use Rattle.fare_side.specs.declared.station.Station.{Station}
use Rattle.fare_world.specs.declared.world.World.{World}
use Rattle.fare_world.specs.Rooms.{HasOwnerRooms, HasRooms}

-- a device with as many lanes takes the place of another
pub rooms_of_device : {O L : Type 0} (w : World O L) (k : ℕ) (x new : DeviceValue) → k < length w.devices.items → x ≡ get_or w.devices.items k x → length new.lanes ≡ length x.lanes → HasRooms w.scheme (set w.devices.items k new) w.stations.items w.inbox.capacity w.owners.items (length w.uptos.items)
rooms_of_device w k x new within e long = record {
  start = w.rooms.start;
  device_count = length-set w.devices.items k new ∙ w.rooms.device_count;
  station_count = w.rooms.station_count;
  owner_count = w.rooms.owner_count;
  lanes = λ j y f. elim (slice_get-set_cases w.devices.items k new j y f) [
    | inl is ↦ ap (λ (z : DeviceValue). length z.lanes) (sym is) ∙ long ∙ w.rooms.lanes k x (slice_get_read w.devices.items (length w.devices.items) k x refl within e)
    | inr is ↦ w.rooms.lanes j y is
  ];
  inbox_room = w.rooms.inbox_room;
  lines = w.rooms.lines;
  sides = w.rooms.sides;
  upto_count = w.rooms.upto_count;
}

-- a station with as long a line takes the place of another
pub rooms_of_station : {O L : Type 0} (w : World O L) (k : ℕ) (x new : Station) → k < length w.stations.items → x ≡ get_or w.stations.items k x → new.line.capacity ≡ x.line.capacity → HasRooms w.scheme w.devices.items (set w.stations.items k new) w.inbox.capacity w.owners.items (length w.uptos.items)
rooms_of_station w k x new within e long = record {
  start = w.rooms.start;
  device_count = w.rooms.device_count;
  station_count = length-set w.stations.items k new ∙ w.rooms.station_count;
  owner_count = w.rooms.owner_count;
  lanes = w.rooms.lanes;
  inbox_room = w.rooms.inbox_room;
  lines = λ j y f. elim (slice_get-set_cases w.stations.items k new j y f) [
    | inl is ↦ ap (λ (z : Station). z.line.capacity) (sym is) ∙ long ∙ w.rooms.lines k x (slice_get_read w.stations.items (length w.stations.items) k x refl within e)
    | inr is ↦ w.rooms.lines j y is
  ];
  sides = w.rooms.sides;
  upto_count = w.rooms.upto_count;
}

-- an acknowledgement line keeps its room
pub line_after_room : (line : Buffer AckItem) (device : ℕ) (r : Result (Option ℕ) Fault) → (line_after line device r).capacity ≡ line.capacity
line_after_room line device (Ok (Some upto)) = refl
line_after_room line device (Ok None) = refl
line_after_room line device (Err f) = refl

-- a line that isn't full has room
pub line_has_room : (count room : ℕ) → (room ≤ count → ⊥) → count < room
line_has_room count room not = by (nat_le room count) refl
  where
    by : (t : Bool) → nat_le room count ≡ t → count < room
    by true t = let full : room ≤ count = grind (arith, nat_tests) in absurd (not full)
    by false t = grind (arith, nat_tests)

-- how long a station's line may be
pub line_room : {O L : Type 0} (w : World O L) (k : ℕ) (x : Station) → k < length w.stations.items → x ≡ get_or w.stations.items k x → x.line.capacity ≡ w.scheme.inbox_capacity
line_room w k x within e = w.rooms.lines k x (slice_get_read w.stations.items (length w.stations.items) k x refl within e)

-- the rooms of an owner that the code read
pub side_of_owner : {O L : Type 0} (w : World O L) (a : ℕ) (y : Owner L) → a < length w.owners.items → y ≡ get_or w.owners.items a y → HasOwnerRooms w.scheme a y
side_of_owner w a y within e = w.rooms.sides a y (slice_get_read w.owners.items (length w.owners.items) a y refl within e)

-- an owner with as much room takes the place of another
pub rooms_of_owner : {O L : Type 0} (w : World O L) (a : ℕ) (y new : Owner L) → a < length w.owners.items → y ≡ get_or w.owners.items a y → (HasOwnerRooms w.scheme a y → HasOwnerRooms w.scheme a new) → HasRooms w.scheme w.devices.items w.stations.items w.inbox.capacity (set w.owners.items a new) (length w.uptos.items)
rooms_of_owner {O} {L} w a y new within e keeps = record {
  start = w.rooms.start;
  device_count = w.rooms.device_count;
  station_count = w.rooms.station_count;
  owner_count = length-set w.owners.items a new ∙ w.rooms.owner_count;
  lanes = w.rooms.lanes;
  inbox_room = w.rooms.inbox_room;
  lines = w.rooms.lines;
  sides = λ j z f. elim (set_cases w.owners.items a new j z f) [
    | inl is ↦ subst (λ (q : ℕ × Owner L). HasOwnerRooms w.scheme q.0 q.1) (λ i. (sym is.0 i, is.1 i)) (keeps (side_of_owner w a y within e))
    | inr is ↦ w.rooms.sides j z is.1
  ];
  upto_count = w.rooms.upto_count;
}

-- an inbox of the same room takes the place of another
pub rooms_of_inbox : {O L : Type 0} (w : World O L) (stations : List Station) (room : ℕ) → room ≡ w.inbox.capacity → HasRooms w.scheme w.devices.items stations w.inbox.capacity w.owners.items (length w.uptos.items) → HasRooms w.scheme w.devices.items stations room w.owners.items (length w.uptos.items)
rooms_of_inbox w stations room same has = subst (λ n. HasRooms w.scheme w.devices.items stations n w.owners.items (length w.uptos.items)) (sym same) has

-- as many numbers of how far the devices are had
pub rooms_of_uptos : {O L : Type 0} (w : World O L) (stations : List Station) (count : ℕ) → count ≡ length w.uptos.items → HasRooms w.scheme w.devices.items stations w.inbox.capacity w.owners.items (length w.uptos.items) → HasRooms w.scheme w.devices.items stations w.inbox.capacity w.owners.items count
rooms_of_uptos w stations count same has = subst (HasRooms w.scheme w.devices.items stations w.inbox.capacity w.owners.items) (sym same) has
