-- A draft: the list of accepted registrations, what each call adds to it, and why a call is refused.
use Rattle.std.specs.Prelude.{ℕ, ◌==◌, Bool, not, ◌&&◌, nat_le, nat_eq, is_some, List, [], ◌∷◌, ◌++◌, length, map, Option, Some, None, if◌then◌else◌}
use Rattle.std.specs.List.{list_any}
use Rattle.std.specs.Map.{lookup}
use Rattle.fare_scheme.specs.declared.entry.Product.{Product}
use Rattle.fare_scheme.specs.declared.fault.AddFault.{AddFault}
use Rattle.fare_scheme.specs.declared.fault.AddFault.TheVariants.{ZeroId, Taken, UnknownParent, Range, TooMany}
use Rattle.fare_scheme.specs.declared.fault.CapsFault.{CapsFault}
use Rattle.fare_scheme.specs.declared.fault.CapsFault.TheVariants as Caps
use Rattle.fare_scheme.specs.declared.fault.HopFault.{HopFault}
use Rattle.fare_scheme.specs.declared.fault.HopFault.TheVariants as Hop
use Rattle.fare_scheme.specs.Values.{DraftValue}

-- nothing is registered, and the inbox has its greatest capacity
abbrev pub empty_draft : DraftValue
empty_draft = record {
  owners = [];
  operators = [];
  stations = [];
  products = [];
  devices = [];
  inbox_capacity = 1024;
  start = None;
  zone = None;
}

-- the fault of the first case that applies
abbrev pub first_case : {F : Type 0} → List (Bool × F) → Option F
first_case [] = None
first_case (case ∷ cases) = if case.0 then Some case.1 else first_case cases

-- the id has an entry
abbrev pub is_registered : {X : Type 0} → List (ℕ × X) → ℕ → Bool
is_registered entries id = is_some (lookup (nat_eq id) entries)

-- the number is from low to high
abbrev pub is_within : ℕ → ℕ → ℕ → Bool
is_within low high n = nat_le low n && nat_le n high

abbrev pub owner_refusal : DraftValue → ℕ → ℕ → Option AddFault
owner_refusal draft owner lane_capacity = first_case (
    (owner == 0, ZeroId)
    ∷ (is_registered draft.owners owner, Taken)
    ∷ (not (is_within 1 1024 lane_capacity), Range)
    ∷ (nat_le 16 (length draft.owners), TooMany)
    ∷ [])

abbrev pub operator_refusal : DraftValue → ℕ → Option AddFault
operator_refusal draft operator = first_case (
    (operator == 0, ZeroId)
    ∷ (list_any (nat_eq operator) draft.operators, Taken)
    ∷ (nat_le 16 (length draft.operators), TooMany)
    ∷ [])

abbrev pub station_refusal : DraftValue → ℕ → ℕ → Option AddFault
station_refusal draft station operator = first_case (
    (station == 0, ZeroId)
    ∷ (is_registered draft.stations station, Taken)
    ∷ (not (list_any (nat_eq operator) draft.operators), UnknownParent)
    ∷ (nat_le 16 (length draft.stations), TooMany)
    ∷ [])

abbrev pub product_refusal : DraftValue → ℕ → ℕ → ℕ → Option AddFault
product_refusal draft product owner fare = first_case (
    (product == 0, ZeroId)
    ∷ (is_registered draft.products product, Taken)
    ∷ (not (is_registered draft.owners owner), UnknownParent)
    ∷ (not (nat_le fare 100000), Range)
    ∷ (nat_le 256 (length draft.products), TooMany)
    ∷ [])

abbrev pub device_refusal : DraftValue → ℕ → ℕ → ℕ → Option AddFault
device_refusal draft device station buffer = first_case (
    (device == 0, ZeroId)
    ∷ (is_registered draft.devices device, Taken)
    ∷ (not (is_registered draft.stations station), UnknownParent)
    ∷ (not (is_within 1 4096 buffer), Range)
    ∷ (nat_le 256 (length draft.devices), TooMany)
    ∷ [])

abbrev pub caps_refusal : DraftValue → ℕ → ℕ → ℕ → Option CapsFault
caps_refusal draft product daily weekly = first_case (
    (not (is_registered draft.products product), Caps.UnknownParent)
    ∷ (not (nat_le daily 1000000 && nat_le weekly 10000000), Caps.Range)
    ∷ [])

abbrev pub hop_refusal : DraftValue → ℕ → ℕ → Option HopFault
hop_refusal draft product seconds = first_case (
    (not (is_registered draft.products product), Hop.UnknownParent)
    ∷ (not (nat_le seconds 7200), Hop.Range)
    ∷ [])

-- the draft with one more owner
abbrev pub with_owner : DraftValue → ℕ → ℕ → DraftValue
with_owner draft owner lane_capacity = record draft { owners = draft.owners ++ (owner, lane_capacity) ∷ [] }

-- with one more operator
abbrev pub with_operator : DraftValue → ℕ → DraftValue
with_operator draft operator = record draft { operators = draft.operators ++ operator ∷ [] }

-- with one more station
abbrev pub with_station : DraftValue → ℕ → ℕ → DraftValue
with_station draft station operator = record draft { stations = draft.stations ++ (station, operator) ∷ [] }

-- a product with the greatest caps and no window
abbrev pub uncapped : ℕ → ℕ → Product
uncapped owner fare = record { owner = owner; tariff = record { fare = fare; daily = 1000000; weekly = 10000000; hop = 0 } }

-- with one more product
abbrev pub with_product : DraftValue → ℕ → ℕ → ℕ → DraftValue
with_product draft product owner fare = record draft { products = draft.products ++ (product, uncapped owner fare) ∷ [] }

-- with one more device
abbrev pub with_device : DraftValue → ℕ → ℕ → ℕ → DraftValue
with_device draft device station buffer =
    record draft { devices = draft.devices ++ (device, record { station = station; buffer = buffer }) ∷ [] }

-- a product with other caps
abbrev pub capped : ℕ → ℕ → Product → Product
capped daily weekly product = record product { tariff = record product.tariff { daily = daily; weekly = weekly } }

-- a product with another window
abbrev pub windowed : ℕ → Product → Product
windowed seconds product = record product { tariff = record product.tariff { hop = seconds } }

-- with this change of the product's entry
abbrev pub with_changed : DraftValue → ℕ → (Product → Product) → DraftValue
with_changed draft product change =
    record draft { products = map (λ p. if nat_eq product p.0 then (p.0, change p.1) else p) draft.products }

-- with these caps of the product
abbrev pub with_caps : DraftValue → ℕ → ℕ → ℕ → DraftValue
with_caps draft product daily weekly = with_changed draft product (capped daily weekly)

-- with this window of the product
abbrev pub with_hop : DraftValue → ℕ → ℕ → DraftValue
with_hop draft product seconds = with_changed draft product (windowed seconds)
