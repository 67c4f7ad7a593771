-- What a device keeps of the taps that it numbered.
use Rattle.std.specs.Prelude.{◌≡◌, ◌<◌, ◌≤◌, ℕ, List, length, drop, Some, nat_eq, position, slice_get}
use Rattle.std.specs.List.{AllByRecursion}
use Rattle.fare_record.specs.Values.{RecordValue}
use Rattle.fare_record.specs.Lanes.{part, day_count}
use Rattle.fare_device.specs.DeviceWords.{DeviceValue}

-- each number is what there is to count in its owner's part of the taps
abbrev pub AreCounted : List ℕ → List RecordValue → (List RecordValue → ℕ) → List ℕ → Type 0
AreCounted owners taps count ns = (owner place n : ℕ) → position (nat_eq owner) owners ≡ Some place → slice_get ns place ≡ Some n → n ≡ count (part owner taps)

-- a day that was turned: it is before the open one, and its counts are those of its taps
pub record IsTurned (owners : List ℕ) (taps : List RecordValue) (open_day : ℕ) (d : ℕ × List ℕ) : Type 0 where
  pub past : d.0 < open_day
  pub counted : AreCounted owners taps (λ rs. day_count rs d.0) d.1

-- the device numbered these taps, in this order, from its first on: what waits is their tail behind the acknowledged ones, each owner's lane has as many taps as are the owner's, the counts of the open day and of those that wait are the counts of these days, and none is of a day after the open one
pub record HasNumbered (taps : List RecordValue) (x : DeviceValue) : Type 0 where
  pub waiting : x.waiting ≡ drop x.base taps
  pub base : x.base ≤ length taps
  pub lanes : AreCounted x.owners taps length x.lanes
  pub counts : AreCounted x.owners taps (λ rs. day_count rs x.day) x.counts
  pub days : AllByRecursion (IsTurned x.owners taps x.day) x.days
  pub dated : AllByRecursion (λ r. r.tap.day ≤ x.day) taps
