-- Lanes: an owner's part of a device's taps, and how many of them are of a day.
use Rattle.std.specs.Prelude.{ℕ, ◌==◌, List, filter, count_by}
use Rattle.fare_record.specs.Values.{RecordValue}

-- the records of one owner, in their order
abbrev pub part : ℕ → List RecordValue → List RecordValue
part owner records = filter (λ r. r.owner == owner) records

-- the records of one device, in their order
abbrev pub of_device : ℕ → List RecordValue → List RecordValue
of_device device records = filter (λ r. r.device == device) records

-- the records of the lane of a device and an owner, in their order
abbrev pub lane_of : ℕ → ℕ → List RecordValue → List RecordValue
lane_of owner device records = part owner (of_device device records)

-- the number of taps of a day
abbrev pub day_count : List RecordValue → ℕ → ℕ
day_count records day = count_by (λ r. r.tap.day == day) records
