-- How the ids and positions of a scheme belong together.
use Rattle.std.specs.Prelude.{◌≡◌, ◌↔◌, ℕ, Option, Some, IfSome, IsSome, slice_get}
use Rattle.fare_scheme.specs.Values.{SchemeValue}
use Rattle.fare_scheme.specs.Words.{owner_of, station_of, operator_of, id_at, position_of_owner, position_of_operator, position_of_station, position_of_product, position_of_device}

-- an id has this position exactly where this position has the id
abbrev pub AreInverse : (ℕ → Option ℕ) → (ℕ → Option ℕ) → Type 0
AreInverse position_of at = (id position : ℕ) → (position_of id ≡ Some position) ↔ (at position ≡ Some id)

-- each kind's ids stand at one position each
pub record ArePositions (scheme : SchemeValue) : Type 0 where
  pub owners : AreInverse (position_of_owner scheme) (id_at scheme.owners)
  pub operators : AreInverse (position_of_operator scheme) (slice_get scheme.operators)
  pub stations : AreInverse (position_of_station scheme) (id_at scheme.stations)
  pub products : AreInverse (position_of_product scheme) (id_at scheme.products)
  pub devices : AreInverse (position_of_device scheme) (id_at scheme.devices)

-- what a registered product or device belongs to is registered
pub record AreParentsKnown (scheme : SchemeValue) : Type 0 where
  pub owner : (product : ℕ) → IfSome (owner_of scheme product) (λ owner. IsSome (position_of_owner scheme owner))
  pub station : (device : ℕ) → IfSome (station_of scheme device) (λ station. IsSome (position_of_station scheme station))
  pub operator : (device : ℕ) → IfSome (operator_of scheme device) (λ operator. IsSome (position_of_operator scheme operator))
