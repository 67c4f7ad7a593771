-- What a scheme answers to a look-up is answered alike by one that adds to it.
use Rattle.std.proofs.Common.{◌≡◌, ℕ, List, ◌++◌, nat_eq, Option, Some, None, refl, sym, ◌∙◌, ap}
use Rattle.std.specs.Prelude.{option_map, option_and_then}
use Rattle.std.specs.Map.{lookup, keys_of}
use Rattle.std.proofs.lemmas.List.{map-append}
use Rattle.std.proofs.lemmas.Map.Made.{lookup-map_values, keys_of-map_values}
use Rattle.fare_scheme.specs.declared.entry.Product.{Product as Sold}
use Rattle.fare_scheme.specs.declared.entry.Placement.{Placement}
use Rattle.fare_scheme.specs.Values.{SchemeValue}
use Rattle.fare_scheme.specs.Words.{operator_of_station, station_of}
use Rattle.fare_growth.specs.Entries.{owner_ids, device_stations}
use Rattle.fare_growth.specs.Growth.{AddsAtEnd, AddsTo}
use Rattle.fare_growth.specs.LookUps.{Keeps, KeepsLookUps}
use Rattle.fare_growth.proofs.Lists.{position-kept, lookup-kept}

adds_keys : {X : Type 0} (xs ys : List (ℕ × X)) → AddsAtEnd xs ys → AddsAtEnd (keys_of xs) (keys_of ys)
adds_keys {X} xs ys adds = (keys_of adds.0, ap keys_of adds.1 ∙ map-append (λ (e : ℕ × X). e.0) xs adds.0)

-- a part of what is looked up
part-kept : {X Y : Type 0} (f : X → Y) (o p : Option X) → ((x : X) → o ≡ Some x → p ≡ Some x) → (y : Y) → option_map f o ≡ Some y → option_map f p ≡ Some y
part-kept f None p go y here = absurd (let h = here in cc)
part-kept f (Some x) p go y here = ap (option_map f) (go x refl) ∙ here

then-kept : {X Y : Type 0} (f g : X → Option Y) → ((x : X) (y : Y) → f x ≡ Some y → g x ≡ Some y) → (o p : Option X) → ((x : X) → o ≡ Some x → p ≡ Some x)
    → (y : Y) → option_and_then f o ≡ Some y → option_and_then g p ≡ Some y
then-kept f g each None p go y here = absurd (let h = here in cc)
then-kept f g each (Some x) p go y here = ap (option_and_then g) (go x refl) ∙ each x y here

stations_are : (s : SchemeValue) (device : ℕ) → lookup (nat_eq device) (device_stations s) ≡ station_of s device
stations_are s device = lookup-map_values (λ (d : Placement). d.station) (nat_eq device) s.devices

station-kept : (kept later : SchemeValue) → AddsTo kept later → Keeps (station_of kept) (station_of later)
station-kept kept later adds device station here =
    sym (stations_are later device)
    ∙ lookup-kept (nat_eq device) (device_stations kept) (device_stations later) adds.devices station (stations_are kept device ∙ here)

operator-kept : (kept later : SchemeValue) → AddsTo kept later → Keeps (operator_of_station kept) (operator_of_station later)
operator-kept kept later adds station operator here = lookup-kept (nat_eq station) kept.stations later.stations adds.stations operator here

devices_are : (s : SchemeValue) → keys_of (device_stations s) ≡ keys_of s.devices
devices_are s = keys_of-map_values (λ (d : Placement). d.station) s.devices

device_ids : (kept later : SchemeValue) → AddsTo kept later → AddsAtEnd (keys_of kept.devices) (keys_of later.devices)
device_ids kept later adds =
    let ids = adds_keys (device_stations kept) (device_stations later) adds.devices in
    (ids.0, sym (devices_are later) ∙ ids.1 ∙ ap (λ (front : List ℕ). front ++ ids.0) (devices_are kept))

pub keeps_look_ups : (kept later : SchemeValue) → AddsTo kept later → KeepsLookUps kept later
keeps_look_ups kept later adds = record {
  owner_position = λ id k here. position-kept (nat_eq id) (owner_ids kept) (owner_ids later) adds.owners k here;
  operator_position = λ id k here. position-kept (nat_eq id) kept.operators later.operators adds.operators k here;
  station_position = λ id k here. position-kept (nat_eq id) (keys_of kept.stations) (keys_of later.stations) (adds_keys kept.stations later.stations adds.stations) k here;
  product_position = λ id k here. position-kept (nat_eq id) (keys_of kept.products) (keys_of later.products) (adds_keys kept.products later.products adds.products) k here;
  device_position = λ id k here. position-kept (nat_eq id) (keys_of kept.devices) (keys_of later.devices) (device_ids kept later adds) k here;
  owner = λ id owner here. part-kept (λ (p : Sold). p.owner) (lookup (nat_eq id) kept.products) (lookup (nat_eq id) later.products) (lookup-kept (nat_eq id) kept.products later.products adds.products) owner here;
  tariff = λ id tariff here. part-kept (λ (p : Sold). p.tariff) (lookup (nat_eq id) kept.products) (lookup (nat_eq id) later.products) (lookup-kept (nat_eq id) kept.products later.products adds.products) tariff here;
  station = station-kept kept later adds;
  station_operator = operator-kept kept later adds;
  operator = λ id operator here. then-kept (operator_of_station kept) (operator_of_station later) (operator-kept kept later adds) (station_of kept id) (station_of later id) (station-kept kept later adds id) operator here;
}
