-- A new world has the rooms of its scheme, and stands at the start.
use Rattle.std.proofs.Common.{◌≡◌, ◌<◌, ℕ, zero, suc, Bool, true, false, List, [], length, Some, None, refl, sym, ap, ◌∙◌, subst, arith}
use Rattle.std.specs.Prelude.{map, slice_get, Option, IfSome, IsSome, option_map, option_and_then, replicate, nat_eq, nat_le, if◌then◌else◌}
use Rattle.std.specs.Map.{keys_of}
use Rattle.std.proofs.lemmas.List.{length-replicate, length-map}
use Rattle.std.proofs.lemmas.List.Quantifiers.{position-Some}
use Rattle.std.proofs.lemmas.Map.Entries.{length-keys_of}
use Rattle.std.proofs.lemmas.Option.{slice_get-map, same_Some}
use Rattle.fare_scheme.specs.Values.{SchemeValue}
use Rattle.fare_scheme.specs.Words.{position_of_device, position_of_station, position_of_owner}
use Rattle.fare_scheme.proofs.Known.{id_at_place}
use Rattle.fare_collector.specs.Collecting.{first_link}
use Rattle.fare_device.specs.DeviceWords.{DeviceValue}
use Rattle.fare_route.specs.Routing.{first_day, standing_at, started}
use Rattle.fare_store.specs.Standing.{Standing}
use Rattle.fare_store.specs.OutboxWords.{OutboxValue}
use Rattle.fare_store.specs.LedgerWords.{LedgerValue, IsOfScheme}
use Rattle.fare_side.specs.declared.owner.Owner.{Owner}
use Rattle.fare_side.specs.declared.station.Station.{Station}
use Rattle.fare_world.specs.declared.world.World.{World}
use Rattle.fare_world.specs.declared.world.fresh.Side.{Side}
use Rattle.fare_world.specs.declared.world.fresh.Fresh.{Fresh}
use Rattle.fare_world.specs.System.{start}
use Rattle.fare_world.specs.Rooms.{HasRooms}
use Rattle.fare_world.specs.Shown.{IsDeviceOf, IsStationOf, IsOwnerOf, OwnerShape, Each2, Both, IsPacketOf, IsAnswerOf, IsArrivedOf, IsRoutedOf, entry}
use Rattle.fare_world.specs.Fresh.{AreFreshDevices, AreFreshStations, IsSideAt, AreFreshSides, AreFresh, AreJoined, side_of}
use Rattle.fare_world.specs.Making.{AllLive, AllLawful, IsReady, IsMadeOf}
use Rattle.fare_world.specs.Whole.{station_shape, owner_seen, AreLive, StandsAt}
use Rattle.fare_world.proofs.Starting.{fresh_lanes, slice_get-replicate}
use Rattle.fare_world.proofs.TableLemmas.{stations_apart}
use Rattle.fare_side.proofs.Positions.{devices_apart}
use Rattle.fare_route.specs.declared.cursor.Cursor.{Cursor}
use Rattle.fare_world.proofs.Stepping.{start_is}

-- PLACES
replicate_at : {A : Type 0} (n : ℕ) (a : A) (k : ℕ) → k < n → slice_get (replicate n a) k ≡ Some a
replicate_at zero a k lt = absurd (omega (arith, lt))
replicate_at (suc n) a zero lt = refl
replicate_at (suc n) a (suc k) lt = replicate_at n a k (omega (arith, lt))

-- where an entry of a mapped list comes from
mapped_at : {X Y : Type 0} (f : X → Y) (xs : List X) (k : ℕ) (y : Y) → slice_get (map f xs) k ≡ Some y → (x : X) × (slice_get xs k ≡ Some x) × (f x ≡ y)
mapped_at {X} {Y} f xs k y e = by (slice_get xs k) refl
  where
    by : (o : Option X) → slice_get xs k ≡ o → (x : X) × (slice_get xs k ≡ Some x) × (f x ≡ y)
    by None at = absurd (let no : None ≡ Some y = ap (option_map f) (sym at) ∙ sym (slice_get-map f xs k) ∙ e in cc)
    by (Some x) at = (x, at, same_Some (f x) y (ap (option_map f) (sym at) ∙ sym (slice_get-map f xs k) ∙ e))

map_at : {X Y : Type 0} (f : X → Y) (xs : List X) (k : ℕ) (x : X) → slice_get xs k ≡ Some x → slice_get (map f xs) k ≡ Some (f x)
map_at f xs k x e = slice_get-map f xs k ∙ ap (option_map f) e

-- SIDES
-- the side of an owner is fresh
side_there : {L : Type 0} (sc : SchemeValue) (sides : List Side) (owners : List (Owner L)) → AreFreshSides sc sides → map side_of owners ≡ sides → (k : ℕ) (x : Owner L) → slice_get owners k ≡ Some x → IsSideAt sc k (side_of x)
side_there sc sides owners fresh are k x e = fresh.each k (side_of x) (ap (λ l. slice_get l k) (sym are) ∙ map_at side_of owners k x e)

-- a forwarder that begins knows each device
knows_each : (sc : SchemeValue) (device : ℕ) → IsSome (position_of_device sc device) → IsSome (started sc (replicate (length sc.devices) (0, None)) device)
knows_each sc device known = by (position_of_device sc device) refl known
  where
    by : (p : Option ℕ) → position_of_device sc device ≡ p → IsSome p → IsSome (option_and_then (λ place. option_map (standing_at sc.start) (slice_get (replicate (length sc.devices) (0, None)) place)) p)
    by None at some = some
    by (Some k) at some =
        let below : k < length (keys_of sc.devices) = (position-Some (nat_eq device) (keys_of sc.devices) k 0 at).0 in
        subst IsSome (sym (ap (option_map (standing_at sc.start)) (replicate_at (length sc.devices) (0, None) k (omega (arith, below, length-keys_of sc.devices))))) refl

-- and has handed on nothing
begins : (sc : SchemeValue) (device : ℕ) (n : ℕ × ℕ) → option_map (λ (c : Cursor). (c.lane, c.day)) (started sc (replicate (length sc.devices) (0, None)) device) ≡ Some n → n ≡ (0, sc.start)
begins sc device n e = by (position_of_device sc device) e
  where
    same_place : (m n : ℕ × ℕ) → Some m ≡ Some n → m ≡ n
    same_place m n q = cc

    at_place : (k : ℕ) (o : Option (ℕ × Option ℕ)) → slice_get (replicate (length sc.devices) (0, None)) k ≡ o → option_map (λ (c : Cursor). (c.lane, c.day)) (option_map (standing_at sc.start) o) ≡ Some n → n ≡ (0, sc.start)
    at_place k None at f = absurd (cc)
    at_place k (Some q) at f = sym (same_place (q.0, first_day sc.start q.1) n f) ∙ ap {B = ℕ × ℕ} (λ (z : ℕ × Option ℕ). (z.0, first_day sc.start z.1)) (slice_get-replicate (length sc.devices) (0, None) k q at)

    by : (p : Option ℕ) → option_map (λ (c : Cursor). (c.lane, c.day)) (option_and_then (λ place. option_map (standing_at sc.start) (slice_get (replicate (length sc.devices) (0, None)) place)) p) ≡ Some n → n ≡ (0, sc.start)
    by None f = absurd (cc)
    by (Some k) f = at_place k (slice_get (replicate (length sc.devices) (0, None)) k) refl f

-- ROOMS
pub fresh_rooms : {L : Type 0} (sc : SchemeValue) (x : Fresh L) (ledgers : List L) (owners : List (Owner L)) → AreFresh sc x → AreJoined x.sides.items ledgers owners → HasRooms sc x.devices.items x.stations.items x.inbox.capacity owners (length x.uptos.items)
fresh_rooms {L} sc x ledgers owners fresh joined = record {
  start = fresh.start;
  device_count = fresh.devices.count;
  station_count = fresh.stations.count;
  owner_count = sym (length-map owners (side_of {L = L})) ∙ ap length joined.sides_are ∙ fresh.sides.count;
  lanes = λ k y e. ap (λ (z : DeviceValue). length z.lanes) (fresh.devices.each k y e).fresh ∙ length-replicate {A = ℕ} (length (keys_of sc.owners)) 0 ∙ length-keys_of sc.owners;
  inbox_room = ap (λ b. b.capacity) fresh.inbox;
  lines = λ k y e. ap (λ b. b.capacity) (fresh.stations.each k y e).line;
  sides = λ k y e.
      let is = side_there sc x.sides.items owners fresh.sides joined.sides_are k y e in
      record {
        forwarder = record { owner = is.at; each = λ device known. subst IsSome (sym (is.fresh.cursors device)) (knows_each sc device known) };
        queue = is.fresh.room;
        standings = is.fresh.standings;
      };
  upto_count = fresh.uptos;
}

-- THE START
module _ {O L : Type 0} (out : O → Standing OutboxValue) (led : L → Standing LedgerValue) where
  pub starts : (o : O) (ls : List L) (sides : List Side) (w : World O L) → IsReady out led w.scheme o ls → IsMadeOf out led w.scheme o ls w → AreFreshDevices w.scheme w.devices.items → AreFreshStations w.scheme w.stations.items → w.air.items ≡ [] → w.inbox.items ≡ [] → w.hand ≡ None
      → AreFreshSides w.scheme sides → map side_of w.owners.items ≡ sides → ((k : ℕ) (x : Owner L) → slice_get w.owners.items k ≡ Some x → x.hand ≡ None) → StandsAt out led w (start w.scheme)
  starts o ls sides w ready made devices stations air inbox hand fresh are hands = record {
    lawful = λ live. record { outbox_is = (made.stores.outbox_is.same live.outbox_is (were_lawful live).outbox_is).0; ledgers_are = λ k x e. (ledger_is live k x e).2 };
    shows = λ live.
        let v : (out w.outbox).value ≡ (out o).value = (made.stores.outbox_is.same live.outbox_is (were_lawful live).outbox_is).1 in
        let empty = (made.empty (all_live live) (were_lawful live)).outbox_is in
        record {
          system = start_is sc;
          devices = λ d. device d (position_of_device sc d) refl;
          stations = λ st. station st (position_of_station sc st) refl;
          air = subst (Each2 (IsPacketOf (start sc).devices) []) (sym air) tt;
          inbox = subst (Each2 (IsArrivedOf (start sc).devices) []) (sym inbox) tt;
          hand = subst (Both (IsArrivedOf (start sc).devices) None) (sym hand) tt;
          upto = λ d. ap (λ (z : OutboxValue). z.upto d) v ∙ empty.upto d;
          rows = λ p d lane. ap (λ (z : OutboxValue). z.rows p d lane) v ∙ empty.rows p d lane ∙ sym (nothing_at (nat_le lane 0));
          row_count = ap {B = ℕ} (λ (z : OutboxValue). z.row_count) v ∙ empty.row_count;
          stated = λ p d day. ap (λ (z : OutboxValue). z.stated p d day) v ∙ empty.stated p d day;
          stated_count = ap {B = ℕ} (λ (z : OutboxValue). z.stated_count) v ∙ empty.stated_count;
          owners = λ p. owner live p (position_of_owner sc p) refl;
        };
  }
    where
      sc : SchemeValue
      sc = w.scheme

      nothing_at : {A : Type 0} (b : Bool) → ◌≡◌ {A = Option A} (if b then None else None) None
      nothing_at true = refl
      nothing_at false = refl

      all_live : AreLive out led w → AllLive out led w.outbox (map (λ x. x.ledger) w.owners.items)
      all_live live = record {
        outbox_is = live.outbox_is;
        ledgers_are = λ k y e. let m = mapped_at (λ (x : Owner L). x.ledger) w.owners.items k y e in subst (λ l. (led l).live) m.2 (live.ledgers_are k m.0 m.1);
      }

      were_lawful : AreLive out led w → AllLawful out led o ls
      were_lawful live = record {
        outbox_is = ready.outbox_is (made.stores.outbox_is.live live.outbox_is);
        ledgers_are = λ k l e. let y = made.stores.ledgers_are.forth k l e in ready.ledgers_are k l e (y.2.live ((all_live live).ledgers_are k y.0 y.1));
      }

      ledger_is : AreLive out led w → (k : ℕ) (x : Owner L) → slice_get w.owners.items k ≡ Some x → (l : L) × (slice_get ls k ≡ Some l) × (led x.ledger).lawful × ((led x.ledger).value ≡ (led l).value)
      ledger_is live k x e =
          let l = made.stores.ledgers_are.back k x.ledger (map_at (λ (z : Owner L). z.ledger) w.owners.items k x e) in
          let is = l.2.same (live.ledgers_are k x e) ((were_lawful live).ledgers_are k l.0 l.1) in
          (l.0, l.1, is.0, is.1)

      device : (d : ℕ) (p : Option ℕ) → position_of_device sc d ≡ p → IfSome (entry p w.devices.items) (IsDeviceOf sc d ((start sc).devices d))
      device d None at = tt
      device d (Some k) at = found (slice_get w.devices.items k) refl
        where
          found : (y : Option DeviceValue) → slice_get w.devices.items k ≡ y → IfSome y (IsDeviceOf sc d ((start sc).devices d))
          found None e = tt
          found (Some x) e = let is = devices.each k x e in fresh_lanes sc d x is.fresh is.room (devices_apart sc x.id d k is.at at)

      station : (st : ℕ) (p : Option ℕ) → position_of_station sc st ≡ p → IfSome (option_map station_shape (entry p w.stations.items)) (IsStationOf sc (start sc).devices st [])
      station st None at = tt
      station st (Some k) at = found (slice_get w.stations.items k) refl
        where
          found : (y : Option Station) → slice_get w.stations.items k ≡ y → IfSome (option_map station_shape y) (IsStationOf sc (start sc).devices st [])
          found None e = tt
          found (Some x) e =
              let is = stations.each k x e in
              record {
                nexts = λ d. is.nexts d ∙ ap (λ q. first_link sc q d) (stations_apart sc x.collector.station st k is.at at);
                waits = subst (Each2 IsAnswerOf []) (sym (ap (λ b. b.items) is.line)) tt;
              }

      owner : AreLive out led w → (p : ℕ) (place : Option ℕ) → position_of_owner sc p ≡ place → IfSome (entry place (map (owner_seen led) w.owners.items)) (IsOwnerOf sc (start sc).devices p ((start sc).owners p) ((start sc).lanes p))
      owner live p None at = tt
      owner live p (Some k) at = found (slice_get (map (owner_seen led) w.owners.items) k) refl
        where
          one : (x : Owner L) → slice_get w.owners.items k ≡ Some x → IsOwnerOf sc (start sc).devices p ((start sc).owners p) ((start sc).lanes p) (owner_seen led x)
          one x e =
              let l = ledger_is live k x e in
              let v = l.3 in
              let is = side_there sc sides w.owners.items fresh are k x e in
              let empty = (made.empty (all_live live) (were_lawful live)).ledgers_are k l.0 l.1 in
              record {
                ledger = record {
                  id = ap {B = ℕ} (λ (z : LedgerValue). z.owner) v ∙ same_Some (led l.0).value.owner p (sym (made.owned.each k l.0 l.1) ∙ id_at_place sc.owners p k at);
                  made = subst (IsOfScheme sc) (sym v) (ready.made k l.0 l.1);
                };
                taken = λ d. ap (λ (z : LedgerValue). z.taken d) v ∙ empty.taken d;
                stated = λ d day. ap (λ (z : LedgerValue). z.stated d day) v ∙ empty.stated d day;
                closed = λ d. ap {B = ℕ} (λ (z : LedgerValue). z.closed d) v ∙ empty.closed d;
                retired = λ d. ap {B = Bool} (λ (z : LedgerValue). z.retired d) v ∙ empty.retired d;
                queue = subst (Each2 (IsRoutedOf (start sc).devices p) []) (sym is.fresh.queue) tt;
                hand = subst (Both (IsRoutedOf (start sc).devices p) None) (sym (hands k x e)) tt;
                cursors = λ d n known f. begins sc d n (ap (option_map (λ (c : Cursor). (c.lane, c.day))) (sym (is.fresh.cursors d)) ∙ f);
              }

          found : (y : Option OwnerShape) → slice_get (map (owner_seen led) w.owners.items) k ≡ y → IfSome y (IsOwnerOf sc (start sc).devices p ((start sc).owners p) ((start sc).lanes p))
          found None e = tt
          found (Some z) e = let m = mapped_at (owner_seen led) w.owners.items k z e in subst (IsOwnerOf sc (start sc).devices p ((start sc).owners p) ((start sc).lanes p)) m.2 (one m.0 m.1)
