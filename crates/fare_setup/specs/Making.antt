-- The scheme that lines make: a draft takes them one after the other, and the seal gives its scheme.
use Rattle.std.specs.Prelude.{◌≡◌, List, [], ◌∷◌, ◌++◌, Some, None}
use Rattle.fare_record.specs.Limits.{IsDay}
use Rattle.fare_day.specs.declared.zone.Zone.{Zone}
use Rattle.fare_day.specs.Clock.{HasRule}
use Rattle.fare_scheme.specs.Values.{DraftValue, SchemeValue}
use Rattle.fare_scheme.specs.Ranges.{IsCapacity}
use Rattle.fare_scheme.specs.Registering.{empty_draft, owner_refusal, operator_refusal, station_refusal, product_refusal, caps_refusal, hop_refusal, device_refusal, with_owner, with_operator, with_station, with_product, with_caps, with_hop, with_device}
use Rattle.fare_scheme.specs.Sealing.{IsSealedFrom, seal_refusal}
use Rattle.fare_lines.specs.declared.line.SchemeLine.{SchemeLine}
use Rattle.fare_lines.specs.declared.line.SchemeLine.TheVariants as line

-- the draft refuses the line in no way, and becomes the next one by it; none takes a seal or a demonstration scheme
abbrev pub Takes : DraftValue → SchemeLine → DraftValue → Type 0
Takes draft (line.Owner owner lane) next = (owner_refusal draft owner lane ≡ None) × (next ≡ with_owner draft owner lane)
Takes draft (line.Operator operator) next = (operator_refusal draft operator ≡ None) × (next ≡ with_operator draft operator)
Takes draft (line.Station station operator) next = (station_refusal draft station operator ≡ None) × (next ≡ with_station draft station operator)
Takes draft (line.Product product owner fare) next = (product_refusal draft product owner fare ≡ None) × (next ≡ with_product draft product owner fare)
Takes draft (line.Caps product daily weekly) next = (caps_refusal draft product daily weekly ≡ None) × (next ≡ with_caps draft product daily weekly)
Takes draft (line.Hop product seconds) next = (hop_refusal draft product seconds ≡ None) × (next ≡ with_hop draft product seconds)
Takes draft (line.Device device station buffer) next = (device_refusal draft device station buffer ≡ None) × (next ≡ with_device draft device station buffer)
Takes draft (line.Inbox capacity) next = IsCapacity capacity × (next ≡ record draft { inbox_capacity = capacity })
Takes draft (line.Zone rule) next = (clock : Zone) × HasRule clock rule × (next ≡ record draft { zone = Some clock })
Takes draft (line.Start day) next = IsDay day × (next ≡ record draft { start = Some day })
Takes draft line.Seal next = ⊥
Takes draft (line.Demo size buffer inbox lane) next = ⊥

-- it takes lines one after the other, and becomes the last one
abbrev pub TakesAll : DraftValue → List SchemeLine → DraftValue → Type 0
TakesAll draft [] last = draft ≡ last
TakesAll draft (first ∷ more) last = (next : DraftValue) × Takes draft first next × TakesAll next more last

-- an empty draft takes the lines in front of the seal, and its seal gives this scheme
pub record Make (lines : List SchemeLine) (scheme : SchemeValue) : Type 0 where
  pub front : List SchemeLine
  pub draft : DraftValue
  pub split : lines ≡ front ++ line.Seal ∷ []
  pub taken : TakesAll empty_draft front draft
  pub allowed : seal_refusal draft ≡ None
  pub sealed : IsSealedFrom draft scheme
