-- What an owner's bill is of, where its ledger agrees with lists.
use Rattle.std.specs.Prelude.{ℕ, nat_le, List, [], ◌∷◌, Option, None, Some, if◌then◌else◌}
use Rattle.std.specs.List.{flat_map}
use Rattle.fare_record.specs.Values.{RecordValue}
use Rattle.fare_record.specs.Lanes.{part}
use Rattle.fare_scheme.specs.declared.entry.Placement.{Placement}
use Rattle.fare_scheme.specs.Values.{SchemeValue}
use Rattle.fare_store.specs.LedgerWords.{LedgerValue}

-- what counts of a device for an owner: its part of the device's list, or, where its lane is retired, what its ledger has taken
abbrev pub part_counted : (ℕ → List RecordValue) → LedgerValue → ℕ → ℕ → List RecordValue
part_counted lists l owner device = if l.retired device then l.taken device else part owner (lists device)

-- what counts for an owner, device by device in order of registration
abbrev pub parts_of : SchemeValue → (ℕ → List RecordValue) → LedgerValue → ℕ → List RecordValue
parts_of sc lists l owner = flat_map (λ (d : ℕ × Placement). part_counted lists l owner d.0) sc.devices

-- the first of these devices of which what is of this day and later ones is not all held
abbrev pub first_forgotten : (ℕ → ℕ) → ℕ → List (ℕ × Placement) → Option ℕ
first_forgotten from day [] = None
first_forgotten from day (d ∷ ds) = if nat_le (from d.0) day then first_forgotten from day ds else Some d.0
