-- Rows of natural numbers.
use Rattle.std.specs.Prelude.{ℕ, ◌<◌, ◌==◌, min, pos, negsuc, if◌then◌else◌, List, [], ◌∷◌, Option, Some, None}
use Rattle.std.specs.List.{AllByRecursion}
use Rattle.sqlite.specs.declared.types.Value.{Value}
use Rattle.sqlite.specs.declared.types.Value.TheVariants.{Null, Int, Real, Text, Blob}
use Rattle.sqlite_value.specs.Order.{Row, column}

-- the number of a cell, 0 where it holds none
abbrev pub nat_in : Value → ℕ
nat_in Null = 0
nat_in (Int (pos n)) = n
nat_in (Int (negsuc n)) = 0
nat_in (Real x) = 0
nat_in (Text t) = 0
nat_in (Blob b) = 0

-- a cell with this number
abbrev pub int : ℕ → Value
int n = Int (pos n)

-- the rowid stands first in each row
abbrev pub id_of : Row → ℕ
id_of r = nat_in (column r 0)

abbrev pub AreAbove : ℕ → List Row → Type 0
AreAbove id rows = AllByRecursion (λ r. id < id_of r) rows

-- rows of one kind, whose rowids rise
abbrev pub AreRows : (Row → Type 0) → List Row → Type 0
AreRows Kind [] = Unit {0}
AreRows Kind (r ∷ rows) = Kind r × AreAbove (id_of r) rows × AreRows Kind rows

-- the row with a rowid
abbrev pub held : List Row → ℕ → Option Row
held [] id = None
held (r ∷ rows) id = if id_of r == id then Some r else held rows id

-- count(*) ends at the greatest integer
abbrev pub counted : ℕ → ℕ
counted n = min n 9223372036854775807
