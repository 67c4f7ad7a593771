-- The demonstration schemes.
use Rattle.std.specs.Prelude.{ℕ, not, ◌&&◌, List, [], ◌∷◌, Option, Some, codes}
use Rattle.fare_day.specs.declared.zone.Zone.{Zone}
use Rattle.fare_scheme.specs.declared.entry.Product.{Product}
use Rattle.fare_scheme.specs.declared.demo.DemoFault.{DemoFault}
use Rattle.fare_scheme.specs.declared.demo.DemoFault.TheVariants.{Range}
use Rattle.fare_scheme.specs.declared.demo.DemoSize.{DemoSize}
use Rattle.fare_scheme.specs.declared.demo.DemoSize.TheVariants.{OneDevice, TwoDevices}
use Rattle.fare_scheme.specs.Values.{DraftValue, SchemeValue}
use Rattle.fare_scheme.specs.Registering.{empty_draft, first_case, is_within}

-- the rule of London's clock
abbrev pub demo_rule : List ℕ
demo_rule = codes "GMT0BST,M3.5.0/1,M10.5.0"

-- a number is out of range
abbrev pub demo_refusal : ℕ → ℕ → ℕ → Option DemoFault
demo_refusal buffer inbox lane =
    first_case ((not (is_within 1 4096 buffer && is_within 1 1024 inbox && is_within 1 1024 lane), Range) ∷ [])

-- the one product: 175 pence a ride, at most 525 a day and 2,470 a week, and no window
abbrev pub demo_product : Product
demo_product = record { owner = 1; tariff = record { fare = 175; daily = 525; weekly = 2470; hop = 0 } }

-- a draft with its settings, and nothing registered
abbrev pub unregistered : ℕ → Zone → DraftValue
unregistered inbox zone = record empty_draft { inbox_capacity = inbox; start = Some 19723; zone = Some zone }

-- one owner with one product, and one or two operators, each with a station and a device there
abbrev pub demo_scheme : DemoSize → ℕ → ℕ → ℕ → Zone → SchemeValue
demo_scheme OneDevice buffer inbox lane zone = record {
  owners = (1, lane) ∷ [];
  operators = 1 ∷ [];
  stations = (1, 1) ∷ [];
  products = (1, demo_product) ∷ [];
  devices = (1, record { station = 1; buffer = buffer }) ∷ [];
  inbox_capacity = inbox;
  start = 19723;
  zone = zone;
}
demo_scheme TwoDevices buffer inbox lane zone = record {
  owners = (1, lane) ∷ [];
  operators = 1 ∷ 2 ∷ [];
  stations = (1, 1) ∷ (2, 2) ∷ [];
  products = (1, demo_product) ∷ [];
  devices = (1, record { station = 1; buffer = buffer }) ∷ (2, record { station = 2; buffer = buffer }) ∷ [];
  inbox_capacity = inbox;
  start = 19723;
  zone = zone;
}
