-- What the rows of an answer show.
use Rattle.std.specs.Prelude.{◌≡◌, ℕ}
use Rattle.sqlite_value.specs.Order.{Row, column}
use Rattle.fare_record.specs.Values.{RecordValue, StatementValue}
use Rattle.fare_tables.specs.Cells.{int}
use Rattle.fare_tables.specs.Records.{ShowsTap}

pub record ShowsRow (row : Row) (owner device : ℕ) (t : RecordValue) : Type 0 where
  pub owner_is : t.owner ≡ owner
  pub device_is : t.device ≡ device
  pub lane : column row 0 ≡ int t.lane
  pub link : column row 1 ≡ int t.link
  pub tap : ShowsTap row 2 t.tap

pub record ShowsStatement (row : Row) (owner device : ℕ) (s : StatementValue) : Type 0 where
  pub owner_is : s.owner ≡ owner
  pub device_is : s.device ≡ device
  pub day : column row 0 ≡ int s.day
  pub count : column row 1 ≡ int s.count
