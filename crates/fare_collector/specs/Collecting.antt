-- What a collector accepts, why it refuses, and which link it accepts next.
use Rattle.std.specs.Prelude.{◌≡◌, ℕ, ◌-◌, ◌==◌, Bool, false, not, is_none, nat_eq, nat_lt, if◌then◌else◌, Option, Some, None, option_map, Result, Ok, Err}
use Rattle.std.specs.HashMap.{get}
use Rattle.fare_record.specs.Values.{RecordValue}
use Rattle.fare_scheme.specs.Values.{SchemeValue}
use Rattle.fare_scheme.specs.Words.{owner_of, station_of, position_of_station}
use Rattle.fare_collector.specs.declared.collector.Collector.{Collector}
use Rattle.fare_collector.specs.declared.fault.CollectorFault.{CollectorFault}
use Rattle.fare_collector.specs.declared.fault.CollectorFault.TheVariants.{UnknownStation}
use Rattle.fare_collector.specs.declared.fault.CollectRefusal.{CollectRefusal}
use Rattle.fare_collector.specs.declared.fault.CollectRefusal.TheVariants.{Stranger, Misrouted, Old, Ahead}
use Rattle.fare_collector.specs.declared.fault.StatementRefusal.{StatementRefusal}
use Rattle.fare_collector.specs.declared.fault.StatementRefusal.TheVariants as statement

-- the link that a collector accepts next from a device, none for a device of another station
abbrev pub next_in : Collector → ℕ → Option ℕ
next_in c device = option_map (λ r. r.next) (get nat_eq c.receivers device)

-- it is this id
abbrev pub is_id : Option ℕ → ℕ → Bool
is_id None id = false
is_id (Some other) id = other == id

-- what a new collector accepts next: link 1 of each device of its station
abbrev pub first_link : SchemeValue → ℕ → ℕ → Option ℕ
first_link scheme station device = if is_id (station_of scheme device) station then Some 1 else None

-- why there is no collector, memory apart
abbrev pub new_refusal : SchemeValue → ℕ → Option CollectorFault
new_refusal scheme station = if is_none (position_of_station scheme station) then Some UnknownStation else None

-- the record's owner is the owner of its product
abbrev pub is_owned : SchemeValue → RecordValue → Bool
is_owned scheme r = is_id (owner_of scheme r.tap.product) r.owner

-- the record is the next one of its device, and its owner is the owner of its product
abbrev pub IsDue : (ℕ → Option ℕ) → SchemeValue → RecordValue → Type 0
IsDue next scheme r = (next r.device ≡ Some r.link) × (owner_of scheme r.tap.product ≡ Some r.owner)

-- the first refusal that applies, by the next link of the record's device, whether its owner is its product's, and its link
abbrev pub collect_judged : Option ℕ → Bool → ℕ → Result Unit CollectRefusal
collect_judged None owned link = Err Stranger
collect_judged (Some next) owned link =
    if not owned then Err Misrouted
    else (if nat_lt link next then Err Old
    else (if nat_lt next link then Err Ahead
    else Ok tt))

-- the first refusal of a statement that applies, by the next link of its device and the place of its owner
abbrev pub statement_judged : Option ℕ → Option ℕ → Result Unit StatementRefusal
statement_judged None owner = Err statement.Stranger
statement_judged (Some next) None = Err statement.Misrouted
statement_judged (Some next) (Some place) = Ok tt

-- the table with the number at one place changed, where there is one
abbrev pub changed : (ℕ → ℕ) → (ℕ → Option ℕ) → ℕ → ℕ → Option ℕ
changed change table key other = if other == key then option_map change (table other) else table other

-- one less, where it is above 1
abbrev pub one_back : ℕ → ℕ
one_back n = if nat_lt 1 n then n - 1 else n
