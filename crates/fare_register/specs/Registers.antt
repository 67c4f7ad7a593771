-- What is registered of a scheme, as lists of numbers and as lines.
use Rattle.std.specs.Prelude.{◌≡◌, ◌<◌, ℕ, Bool, true, false, List, [], ◌∷◌, ◌++◌, map}
use Rattle.std.specs.Global.{Global}
use Rattle.std.specs.Prelude.{Vec}
use Rattle.std.specs.List.{AllByRecursion, flat_map}
use Rattle.fare_scheme.specs.declared.entry.Product.{Product}
use Rattle.fare_scheme.specs.declared.entry.Placement.{Placement}
use Rattle.fare_scheme.specs.Values.{SchemeValue}
use Rattle.fare_lines.specs.declared.line.SchemeLine.{SchemeLine}
use Rattle.fare_lines.specs.declared.line.SchemeLine.TheVariants as line
use Rattle.fare_lines.specs.ZoneWord.{IsZoneText}
use Rattle.fare_setup.specs.SchemeLines.{owner_line, station_line, product_lines, device_line}

-- a scheme's lists, with the text of its clock's rule
pub record RegisterValue : Type 0 where
  -- owners with the capacity of their lane queue
  pub owners : List (ℕ × ℕ)
  pub operators : List ℕ
  -- stations with their operator
  pub stations : List (ℕ × ℕ)
  -- products with their owner and tariff
  pub products : List (ℕ × Product)
  -- devices with their station and buffer
  pub devices : List (ℕ × Placement)
  pub inbox : ℕ
  pub zone : List ℕ
  pub start : ℕ

-- what is registered of a scheme whose clock goes by this rule
abbrev pub registered : SchemeValue → List ℕ → RegisterValue
registered scheme zone = record { owners = scheme.owners; operators = scheme.operators; stations = scheme.stations; products = scheme.products; devices = scheme.devices; inbox = scheme.inbox_capacity; zone = zone; start = scheme.start }

-- NUMBERS
abbrev pub pair_numbers : ℕ × ℕ → List ℕ
pair_numbers pair = pair.0 ∷ pair.1 ∷ []

abbrev pub one_number : ℕ → List ℕ
one_number n = n ∷ []

abbrev pub product_numbers : ℕ × Product → List ℕ
product_numbers p = p.0 ∷ p.1.owner ∷ p.1.tariff.fare ∷ p.1.tariff.daily ∷ p.1.tariff.weekly ∷ p.1.tariff.hop ∷ []

abbrev pub device_numbers : ℕ × Placement → List ℕ
device_numbers d = d.0 ∷ d.1.station ∷ d.1.buffer ∷ []

-- a list of each kind: the settings, the bytes of the rule, owners, operators, stations, products, devices
abbrev pub register_lists : RegisterValue → List (List (List ℕ))
register_lists r =
    ((r.start ∷ r.inbox ∷ []) ∷ [])
    ∷ map one_number r.zone
    ∷ map pair_numbers r.owners
    ∷ map one_number r.operators
    ∷ map pair_numbers r.stations
    ∷ map product_numbers r.products
    ∷ map device_numbers r.devices
    ∷ []

-- the numbers of lists
abbrev pub told_list : List (Vec ℕ Global) → List (List ℕ)
told_list list = map (λ r. r.items) list

abbrev pub told : List (Vec (Vec ℕ Global) Global) → List (List (List ℕ))
told lists = map (λ l. told_list l.items) lists

-- LINES
-- the lines of the settings, and the seal
abbrev pub settings_lines : ℕ → List ℕ → ℕ → List SchemeLine
settings_lines inbox zone start = line.Inbox inbox ∷ line.Zone zone ∷ line.Start start ∷ line.Seal ∷ []

abbrev pub register_lines : RegisterValue → List SchemeLine
register_lines r =
    map owner_line r.owners
    ++ map line.Operator r.operators
    ++ map station_line r.stations
    ++ flat_map product_lines r.products
    ++ map device_line r.devices
    ++ settings_lines r.inbox r.zone r.start

-- what lines have room for: ids of owners, operators and stations below 2^16
abbrev pub FirstFits : ℕ × ℕ → Type 0
FirstFits pair = pair.0 < 65536

abbrev pub IdFits : ℕ → Type 0
IdFits id = id < 65536

abbrev pub BothFit : ℕ × ℕ → Type 0
BothFit pair = (pair.0 < 65536) × (pair.1 < 65536)

abbrev pub OwnerFits : ℕ × Product → Type 0
OwnerFits product = product.1.owner < 65536

abbrev pub StationFits : ℕ × Placement → Type 0
StationFits device = device.1.station < 65536

abbrev pub IsByte : ℕ → Type 0
IsByte byte = byte < 256

-- so it is with all of a register, whose rule is of printable bytes
pub record HaveRoom (r : RegisterValue) : Type 0 where
  pub owners : AllByRecursion FirstFits r.owners
  pub operators : AllByRecursion IdFits r.operators
  pub stations : AllByRecursion BothFit r.stations
  pub products : AllByRecursion OwnerFits r.products
  pub devices : AllByRecursion StationFits r.devices
  pub zone : IsZoneText r.zone

-- lists are those of what is registered with these lines
pub record AreOf (lists : List (List (List ℕ))) (lines : List SchemeLine) : Type 0 where
  pub register : RegisterValue
  pub room : HaveRoom register
  pub lists_are : lists ≡ register_lists register
  pub lines_are : lines ≡ register_lines register

-- they are of nothing that is registered
abbrev pub IsOfNone : List (List (List ℕ)) → Type 0
IsOfNone lists = (r : RegisterValue) → HaveRoom r → lists ≡ register_lists r → ⊥

-- the lines stand behind others, or there are none
abbrev pub HasRead : List (List (List ℕ)) → List SchemeLine → List SchemeLine → Bool → Type 0
HasRead lists old new true = (r : RegisterValue) × HaveRoom r × (lists ≡ register_lists r) × (new ≡ old ++ register_lines r)
HasRead lists old new false = IsOfNone lists

-- rows are those of entries of one kind, whose lines stand behind others
pub record ArePushed (X : Type 0) (Room : X → Type 0) (numbers : X → List ℕ) (lines : X → List SchemeLine) (rows : List (List ℕ)) (old new : List SchemeLine) : Type 0 where
  pub entries : List X
  pub room : AllByRecursion Room entries
  pub rows_are : rows ≡ map numbers entries
  pub new_is : new ≡ old ++ flat_map lines entries

-- rows are of no entries of that kind
abbrev pub AreNone : (X : Type 0) → (X → Type 0) → (X → List ℕ) → List (List ℕ) → Type 0
AreNone X Room numbers rows = (entries : List X) → AllByRecursion Room entries → rows ≡ map numbers entries → ⊥

-- so it is where all rows could be told, or where one couldn't
abbrev pub HasPushed : (X : Type 0) → (X → Type 0) → (X → List ℕ) → (X → List SchemeLine) → List (List ℕ) → List SchemeLine → List SchemeLine → Bool → Type 0
HasPushed X Room numbers lines rows old new true = ArePushed X Room numbers lines rows old new
HasPushed X Room numbers lines rows old new false = AreNone X Room numbers rows

-- the lines of one entry
abbrev pub owner_lines : ℕ × ℕ → List SchemeLine
owner_lines owner = owner_line owner ∷ []

abbrev pub operator_lines : ℕ → List SchemeLine
operator_lines operator = line.Operator operator ∷ []

abbrev pub station_lines : ℕ × ℕ → List SchemeLine
station_lines station = station_line station ∷ []

abbrev pub device_lines : ℕ × Placement → List SchemeLine
device_lines device = device_line device ∷ []

-- the lines of settings stand behind others
pub record AreSettled (settings rule : List (List ℕ)) (old new : List SchemeLine) : Type 0 where
  pub start : ℕ
  pub inbox : ℕ
  pub zone : List ℕ
  pub word : IsZoneText zone
  pub settings_are : settings ≡ (start ∷ inbox ∷ []) ∷ []
  pub rule_is : rule ≡ map one_number zone
  pub new_is : new ≡ old ++ settings_lines inbox zone start

-- so it is where they could be told, or they couldn't
abbrev pub HasSettled : List (List ℕ) → List (List ℕ) → List SchemeLine → List SchemeLine → Bool → Type 0
HasSettled settings rule old new true = AreSettled settings rule old new
HasSettled settings rule old new false = (start inbox : ℕ) (zone : List ℕ) → IsZoneText zone → settings ≡ (start ∷ inbox ∷ []) ∷ [] → rule ≡ map one_number zone → ⊥
