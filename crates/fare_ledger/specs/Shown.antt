-- What the rows of an answer show.
use Rattle.std.specs.Prelude.{◌≡◌, ℕ, List, [], ◌∷◌}
use Rattle.sqlite_value.specs.Order.{Row, column}
use Rattle.fare_record.specs.Values.{RecordValue}
use Rattle.fare_tables.specs.Cells.{int}
use Rattle.fare_tables.specs.Records.{ShowsTap}

pub record ShowsRow (row : Row) (owner : ℕ) (t : RecordValue) : Type 0 where
  pub owner_is : t.owner ≡ owner
  pub device : column row 0 ≡ int t.device
  pub lane : column row 1 ≡ int t.lane
  pub link : column row 2 ≡ int t.link
  pub tap : ShowsTap row 3 t.tap

-- each row shows the record at its place
abbrev pub ShowRows : ℕ → List Row → List RecordValue → Type 0
ShowRows owner [] [] = Unit {0}
ShowRows owner [] (t ∷ more) = ⊥
ShowRows owner (r ∷ rows) [] = ⊥
ShowRows owner (r ∷ rows) (t ∷ more) = ShowsRow r owner t × ShowRows owner rows more
