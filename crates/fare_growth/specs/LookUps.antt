-- The look-ups of a scheme, as another one answers them.
use Rattle.std.specs.Prelude.{◌≡◌, ℕ, Option, Some}
use Rattle.fare_scheme.specs.Values.{SchemeValue}
use Rattle.fare_scheme.specs.Words.{owner_of, tariff_of, station_of, operator_of_station, operator_of, position_of_owner, position_of_operator, position_of_station, position_of_product, position_of_device}

-- what the one answers for an id, the other answers too
abbrev pub Keeps : {X : Type 0} → (ℕ → Option X) → (ℕ → Option X) → Type 0
Keeps {X} kept later = (id : ℕ) (answer : X) → kept id ≡ Some answer → later id ≡ Some answer

-- each look-up by id but those of capacities
pub record KeepsLookUps (kept later : SchemeValue) : Type 0 where
  pub owner_position : Keeps (position_of_owner kept) (position_of_owner later)
  pub operator_position : Keeps (position_of_operator kept) (position_of_operator later)
  pub station_position : Keeps (position_of_station kept) (position_of_station later)
  pub product_position : Keeps (position_of_product kept) (position_of_product later)
  pub device_position : Keeps (position_of_device kept) (position_of_device later)
  pub owner : Keeps (owner_of kept) (owner_of later)
  pub tariff : Keeps (tariff_of kept) (tariff_of later)
  pub station : Keeps (station_of kept) (station_of later)
  pub station_operator : Keeps (operator_of_station kept) (operator_of_station later)
  pub operator : Keeps (operator_of kept) (operator_of later)
