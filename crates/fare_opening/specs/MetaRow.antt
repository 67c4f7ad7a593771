-- The row that says whose tables these are.
use Rattle.std.specs.Prelude.{◌≡◌, ℕ, List, [], ◌∷◌}
use Rattle.sqlite.specs.declared.types.Value.{Value}
use Rattle.sqlite.specs.declared.types.Value.TheVariants.{Int}
use Rattle.sqlite_value.specs.Order.{Row, column}
use Rattle.fare_tables.specs.Cells.{int}

-- an integer
abbrev pub IsNumber : Value → Type 0
IsNumber (Int n) = Unit {0}
IsNumber _ = ⊥

-- with its number, this format and this owner
pub record IsMetaRow (format owner : ℕ) (row : Row) : Type 0 where
  pub id_is : IsNumber (column row 0)
  pub format_is : column row 1 ≡ int format
  pub owner_is : column row 2 ≡ int owner

-- that row, and no other
abbrev pub AreMeta : ℕ → ℕ → List Row → Type 0
AreMeta format owner [] = ⊥
AreMeta format owner (row ∷ []) = IsMetaRow format owner row
AreMeta format owner (row ∷ more ∷ rest) = ⊥

-- meta holds that row alone
pub record IsMeta (format owner : ℕ) (rows : List Row) : Type 0 where
  pub row : Row
  pub only : rows ≡ row ∷ []
  pub is : IsMetaRow format owner row
