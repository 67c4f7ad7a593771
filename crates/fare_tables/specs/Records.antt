-- What is kept of a tap in a row.
use Rattle.std.specs.Prelude.{◌≡◌, ◌≢◌, ℕ, ◌+◌}
use Rattle.sqlite_value.specs.Order.{Row, column}
use Rattle.fare_record.specs.Limits.{IsProductId, IsToken, IsMoment, IsDay, IsRoute}
use Rattle.fare_record.specs.Values.{TapValue}
use Rattle.fare_tables.specs.Cells.{int}

-- the cells from a place on are those of the tap
pub record ShowsTap (row : Row) (from : ℕ) (t : TapValue) : Type 0 where
  pub product : column row from ≡ int t.product
  pub token : column row (from + 1) ≡ int t.token
  pub moment : column row (from + 2) ≡ int t.moment
  pub day : column row (from + 3) ≡ int t.day
  pub route : column row (from + 4) ≡ int t.route

-- each number is within its limits
pub record IsTap (t : TapValue) : Type 0 where
  pub product : IsProductId t.product
  pub token : IsToken t.token
  pub moment : IsMoment t.moment
  pub day : IsDay t.day
  pub route : IsRoute t.route

-- no number within these limits stands in the cell
abbrev pub HoldsNone : (ℕ → Type 0) → Row → ℕ → Type 0
HoldsNone Fits row at = (n : ℕ) → Fits n → column row at ≢ int n
