-- The lines that make a scheme.
use Rattle.std.specs.Prelude.{ℕ, List, [], ◌∷◌, ◌++◌, map, flat_map}
use Rattle.fare_scheme.specs.declared.entry.Product.{Product}
use Rattle.fare_scheme.specs.declared.entry.Placement.{Placement}
use Rattle.fare_scheme.specs.Values.{SchemeValue}
use Rattle.fare_lines.specs.declared.line.SchemeLine.{SchemeLine}
use Rattle.fare_lines.specs.declared.line.SchemeLine.TheVariants as line

-- the line of an owner, with the capacity of its lane queue
abbrev pub owner_line : ℕ × ℕ → SchemeLine
owner_line owner = line.Owner owner.0 owner.1

-- the line of a station, with its operator
abbrev pub station_line : ℕ × ℕ → SchemeLine
station_line station = line.Station station.0 station.1

-- the lines of a product: its own with its owner and its fare, that of its caps and that of its window
abbrev pub product_lines : ℕ × Product → List SchemeLine
product_lines product =
    line.Product product.0 product.1.owner product.1.tariff.fare
    ∷ line.Caps product.0 product.1.tariff.daily product.1.tariff.weekly
    ∷ line.Hop product.0 product.1.tariff.hop
    ∷ []

-- the line of a device, with its station and its buffer
abbrev pub device_line : ℕ × Placement → SchemeLine
device_line device = line.Device device.0 device.1.station device.1.buffer

-- the lines of the settings, with the text of the clock's rule, and the seal
abbrev pub closing_lines : SchemeValue → List ℕ → List SchemeLine
closing_lines scheme zone = line.Inbox scheme.inbox_capacity ∷ line.Zone zone ∷ line.Start scheme.start ∷ line.Seal ∷ []

-- the lines of a scheme's owners, operators, stations, products and devices, each in their order, of its settings, and
-- the seal
abbrev pub setup_lines_of : SchemeValue → List ℕ → List SchemeLine
setup_lines_of scheme zone =
    map owner_line scheme.owners
    ++ map line.Operator scheme.operators
    ++ map station_line scheme.stations
    ++ flat_map product_lines scheme.products
    ++ map device_line scheme.devices
    ++ closing_lines scheme zone
