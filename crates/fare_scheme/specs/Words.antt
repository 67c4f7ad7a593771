-- What a scheme says of its parts.
use Rattle.std.specs.Prelude.{ℕ, List, Option, nat_eq, slice_get, position, option_map, option_and_then}
use Rattle.std.specs.Map.{lookup, keys_of}
use Rattle.fare_scheme.specs.declared.entry.Tariff.{Tariff}
use Rattle.fare_scheme.specs.Values.{SchemeValue}

-- the owner of a product
abbrev pub owner_of : SchemeValue → ℕ → Option ℕ
owner_of scheme product = option_map (λ p. p.owner) (lookup (nat_eq product) scheme.products)

-- a product's fare, caps and window
abbrev pub tariff_of : SchemeValue → ℕ → Option Tariff
tariff_of scheme product = option_map (λ p. p.tariff) (lookup (nat_eq product) scheme.products)

-- the station of a device
abbrev pub station_of : SchemeValue → ℕ → Option ℕ
station_of scheme device = option_map (λ d. d.station) (lookup (nat_eq device) scheme.devices)

-- how many taps a device's buffer holds
abbrev pub buffer_of : SchemeValue → ℕ → Option ℕ
buffer_of scheme device = option_map (λ d. d.buffer) (lookup (nat_eq device) scheme.devices)

-- the operator of a station
abbrev pub operator_of_station : SchemeValue → ℕ → Option ℕ
operator_of_station scheme station = lookup (nat_eq station) scheme.stations

-- the operator of a device: that of its station
abbrev pub operator_of : SchemeValue → ℕ → Option ℕ
operator_of scheme device = option_and_then (λ station. lookup (nat_eq station) scheme.stations) (station_of scheme device)

-- how many items an owner's lane queue holds
abbrev pub lane_capacity_of : SchemeValue → ℕ → Option ℕ
lane_capacity_of scheme owner = lookup (nat_eq owner) scheme.owners

-- the id at a place of a list of entries
abbrev pub id_at : {X : Type 0} → List (ℕ × X) → ℕ → Option ℕ
id_at entries place = option_map (λ e. e.0) (slice_get entries place)

-- the place of an id in a list of entries
abbrev pub place_of : {X : Type 0} → List (ℕ × X) → ℕ → Option ℕ
place_of entries id = position (nat_eq id) (keys_of entries)

-- the places of ids, in order of registration
abbrev pub position_of_owner : SchemeValue → ℕ → Option ℕ
position_of_owner scheme owner = place_of scheme.owners owner

abbrev pub position_of_operator : SchemeValue → ℕ → Option ℕ
position_of_operator scheme operator = position (nat_eq operator) scheme.operators

abbrev pub position_of_station : SchemeValue → ℕ → Option ℕ
position_of_station scheme station = place_of scheme.stations station

abbrev pub position_of_product : SchemeValue → ℕ → Option ℕ
position_of_product scheme product = place_of scheme.products product

abbrev pub position_of_device : SchemeValue → ℕ → Option ℕ
position_of_device scheme device = place_of scheme.devices device
