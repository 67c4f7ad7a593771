-- What holds of the maps of a plain outbox.
use Rattle.std.specs.Prelude.{◌≡◌, ℕ, true, Option, None, Some, is_some}
use Rattle.std.specs.BTreeMap as tree
use Rattle.fare_record.specs.Limits.{IsNumber, IsCount}
use Rattle.fare_record.specs.Values.{RecordValue}
use Rattle.fare_store.specs.Falling.{falling}
use Rattle.fare_store.specs.Keys.{key_order}

-- the rows of a lane, where it has had one, by lane number
abbrev pub row_in : Option (tree.BTreeMap ℕ RecordValue) → ℕ → Option RecordValue
row_in None lane = None
row_in (Some rows) lane = tree.get falling rows lane

-- the rows of all lanes, by owner, device and lane number
abbrev pub rows_in : (ℕ × ℕ → Option (tree.BTreeMap ℕ RecordValue)) → ℕ → ℕ → ℕ → Option RecordValue
rows_in lanes owner device lane = row_in (lanes (owner, device)) lane

-- a row stands at its own owner, device and lane number
pub record IsPlacedAt (owner device lane : ℕ) (r : RecordValue) : Type 0 where
  pub owner_is : r.owner ≡ owner
  pub device_is : r.device ≡ device
  pub lane_is : r.lane ≡ lane

abbrev pub ArePlaced : (ℕ → ℕ → ℕ → Option RecordValue) → Type 0
ArePlaced rows = (owner device lane : ℕ) (r : RecordValue) → rows owner device lane ≡ Some r → IsPlacedAt owner device lane r

-- each row is of a device that was seen
abbrev pub AreKnown : (ℕ → Option ℕ) → (ℕ → ℕ → ℕ → Option RecordValue) → Type 0
AreKnown upto rows = (owner device lane : ℕ) (r : RecordValue) → rows owner device lane ≡ Some r → is_some (upto device) ≡ true

-- each count of a statement is within its limits
abbrev pub AreCounts : tree.BTreeMap (ℕ × ℕ × ℕ) ℕ → Type 0
AreCounts counts = (owner device day count : ℕ) → tree.get key_order counts (owner, device, day) ≡ Some count → IsCount count

-- each greatest link is a link
abbrev pub AreLinks : (ℕ → Option ℕ) → Type 0
AreLinks upto = (device link : ℕ) → upto device ≡ Some link → IsNumber link
