-- What holds of the lists of every draft and every scheme.
use Rattle.std.specs.Prelude.{ℕ, ◌≤◌, List, IfSome, length, nat_eq, All, Contains, IsSome}
use Rattle.std.specs.List.{IsDistinct}
use Rattle.std.specs.Map.{lookup, keys_of}
use Rattle.fare_record.specs.Limits.{IsOwnerId, IsOperatorId, IsStationId, IsProductId, IsDeviceId, IsDay}
use Rattle.fare_scheme.specs.declared.entry.Tariff.{Tariff}
use Rattle.fare_scheme.specs.declared.entry.Product.{Product}
use Rattle.fare_scheme.specs.declared.entry.Placement.{Placement}
use Rattle.fare_scheme.specs.Ranges.{IsCapacity, IsBuffer, IsFare, IsDailyCap, IsWeeklyCap, IsHop}
use Rattle.fare_scheme.specs.Values.{DraftValue, SchemeValue}

-- the id has an entry
abbrev pub IsRegistered : {X : Type 0} → List (ℕ × X) → ℕ → Type 0
IsRegistered entries id = IsSome (lookup (nat_eq id) entries)

pub record IsTariff (tariff : Tariff) : Type 0 where
  pub fare : IsFare tariff.fare
  pub daily : IsDailyCap tariff.daily
  pub weekly : IsWeeklyCap tariff.weekly
  pub hop : IsHop tariff.hop

pub record AreOwners (owners : List (ℕ × ℕ)) : Type 0 where
  pub distinct : IsDistinct nat_eq (keys_of owners)
  pub ids : All (λ o. IsOwnerId o.0) owners
  pub capacities : All (λ o. IsCapacity o.1) owners
  pub few : length owners ≤ 16

pub record AreOperators (operators : List ℕ) : Type 0 where
  pub distinct : IsDistinct nat_eq operators
  pub ids : All IsOperatorId operators
  pub few : length operators ≤ 16

pub record AreStations (operators : List ℕ) (stations : List (ℕ × ℕ)) : Type 0 where
  pub distinct : IsDistinct nat_eq (keys_of stations)
  pub ids : All (λ s. IsStationId s.0) stations
  pub parents : All (λ s. Contains operators s.1) stations
  pub few : length stations ≤ 16

pub record AreProducts (owners : List (ℕ × ℕ)) (products : List (ℕ × Product)) : Type 0 where
  pub distinct : IsDistinct nat_eq (keys_of products)
  pub ids : All (λ p. IsProductId p.0) products
  pub parents : All (λ p. IsRegistered owners p.1.owner) products
  pub tariffs : All (λ p. IsTariff p.1.tariff) products
  pub few : length products ≤ 256

pub record AreDevices (stations : List (ℕ × ℕ)) (devices : List (ℕ × Placement)) : Type 0 where
  pub distinct : IsDistinct nat_eq (keys_of devices)
  pub ids : All (λ d. IsDeviceId d.0) devices
  pub parents : All (λ d. IsRegistered stations d.1.station) devices
  pub buffers : All (λ d. IsBuffer d.1.buffer) devices
  pub few : length devices ≤ 256

-- ids are unique, parents are registered, numbers are in range
pub record IsDraft (draft : DraftValue) : Type 0 where
  pub owners : AreOwners draft.owners
  pub operators : AreOperators draft.operators
  pub stations : AreStations draft.operators draft.stations
  pub products : AreProducts draft.owners draft.products
  pub devices : AreDevices draft.stations draft.devices
  pub inbox_capacity : IsCapacity draft.inbox_capacity
  pub start : IfSome draft.start IsDay

-- the same of a scheme, which has at least one of each kind
pub record IsScheme (scheme : SchemeValue) : Type 0 where
  pub owners : AreOwners scheme.owners
  pub operators : AreOperators scheme.operators
  pub stations : AreStations scheme.operators scheme.stations
  pub products : AreProducts scheme.owners scheme.products
  pub devices : AreDevices scheme.stations scheme.devices
  pub inbox_capacity : IsCapacity scheme.inbox_capacity
  pub start : IsDay scheme.start
  pub has_owner : 1 ≤ length scheme.owners
  pub has_operator : 1 ≤ length scheme.operators
  pub has_station : 1 ≤ length scheme.stations
  pub has_product : 1 ≤ length scheme.products
  pub has_device : 1 ≤ length scheme.devices
