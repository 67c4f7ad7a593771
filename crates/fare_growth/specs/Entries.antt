-- The entries of a scheme as one list, each by its name with what may not change of it.
use Rattle.std.specs.Prelude.{ℕ, Bool, false, ◌&&◌, nat_eq, List, ◌++◌, map, Option, Some, None}
use Rattle.std.specs.List.{enumerate_from}
use Rattle.std.specs.Map.{lookup, keys_of}
use Rattle.std.specs.Option.{option_eq}
use Rattle.fare_scheme.specs.declared.entry.Tariff.{Tariff}
use Rattle.fare_scheme.specs.declared.entry.Product.{Product as Sold}
use Rattle.fare_scheme.specs.Values.{SchemeValue}
use Rattle.fare_growth.specs.declared.entry.Entry.{Entry}
use Rattle.fare_growth.specs.declared.entry.Entry.TheVariants.{Owner, Operator, Station, Product, Device}
use Rattle.fare_growth.specs.declared.registered.Registered.{Registered}

-- owners without their capacities
abbrev pub owner_ids : SchemeValue → List ℕ
owner_ids scheme = keys_of scheme.owners

-- devices with their stations, without their buffers
abbrev pub device_stations : SchemeValue → List (ℕ × ℕ)
device_stations scheme = map (λ d. (d.0, d.1.station)) scheme.devices

-- the entry that stands at a position of its kind
abbrev pub owner_entry : ℕ × ℕ → Entry × Registered
owner_entry e = (Owner e.1, record { position = e.0; parent = None; tariff = None })

abbrev pub operator_entry : ℕ × ℕ → Entry × Registered
operator_entry e = (Operator e.1, record { position = e.0; parent = None; tariff = None })

abbrev pub station_entry : ℕ × (ℕ × ℕ) → Entry × Registered
station_entry e = (Station e.1.0, record { position = e.0; parent = Some (Operator e.1.1); tariff = None })

abbrev pub product_entry : ℕ × (ℕ × Sold) → Entry × Registered
product_entry e = (Product e.1.0, record { position = e.0; parent = Some (Owner e.1.1.owner); tariff = Some e.1.1.tariff })

abbrev pub device_entry : ℕ × (ℕ × ℕ) → Entry × Registered
device_entry e = (Device e.1.0, record { position = e.0; parent = Some (Station e.1.1); tariff = None })

-- the entries of a kind, at the positions from 0 on
abbrev pub entries_of : {X : Type 0} → (ℕ × X → Entry × Registered) → List X → List (Entry × Registered)
entries_of entry parts = map entry (enumerate_from 0 parts)

-- all entries, in the order of kinds and of registration
unfoldable pub entries : SchemeValue → List (Entry × Registered)
entries scheme =
    entries_of owner_entry (owner_ids scheme)
    ++ (entries_of operator_entry scheme.operators
    ++ (entries_of station_entry scheme.stations
    ++ (entries_of product_entry scheme.products
    ++ entries_of device_entry (device_stations scheme))))

-- their names
abbrev pub names : SchemeValue → List Entry
names scheme = keys_of (entries scheme)

-- the same kind and id
abbrev pub same_entry : Entry → Entry → Bool
same_entry (Owner a) (Owner b) = nat_eq a b
same_entry (Operator a) (Operator b) = nat_eq a b
same_entry (Station a) (Station b) = nat_eq a b
same_entry (Product a) (Product b) = nat_eq a b
same_entry (Device a) (Device b) = nat_eq a b
same_entry a b = false

abbrev pub same_tariff : Tariff → Tariff → Bool
same_tariff a b = nat_eq a.fare b.fare && nat_eq a.daily b.daily && nat_eq a.weekly b.weekly && nat_eq a.hop b.hop

abbrev pub same_registered : Registered → Registered → Bool
same_registered a b = nat_eq a.position b.position && option_eq same_entry a.parent b.parent && option_eq same_tariff a.tariff b.tariff

-- the same entry, with all that may not change of it
abbrev pub same : Entry × Registered → Entry × Registered → Bool
same a b = same_entry a.0 b.0 && same_registered a.1 b.1

-- what is registered of an entry
abbrev pub registered_of : SchemeValue → Entry → Option Registered
registered_of scheme entry = lookup (same_entry entry) (entries scheme)
