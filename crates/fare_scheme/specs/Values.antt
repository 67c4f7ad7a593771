-- What contracts see of a draft and of a scheme. Each list is in the order of registration, and each entry of
-- a kind with something to it is a pair of its id and that.
use Rattle.std.specs.Prelude.{ℕ, List, Option}
use Rattle.fare_day.specs.declared.zone.Zone.{Zone}
use Rattle.fare_scheme.specs.declared.entry.Product.{Product}
use Rattle.fare_scheme.specs.declared.entry.Placement.{Placement}

-- what is registered and set so far
pub record DraftValue : Type 0 where
  -- owners with the capacity of their lane queue
  pub owners : List (ℕ × ℕ)
  pub operators : List ℕ
  -- stations with their operator
  pub stations : List (ℕ × ℕ)
  -- products with their owner and tariff
  pub products : List (ℕ × Product)
  -- devices with their station and buffer
  pub devices : List (ℕ × Placement)
  pub inbox_capacity : ℕ
  pub start : Option ℕ
  pub zone : Option Zone

-- a whole scheme
pub record SchemeValue : Type 0 where
  -- owners with the capacity of their lane queue
  pub owners : List (ℕ × ℕ)
  pub operators : List ℕ
  -- stations with their operator
  pub stations : List (ℕ × ℕ)
  -- products with their owner and tariff
  pub products : List (ℕ × Product)
  -- devices with their station and buffer
  pub devices : List (ℕ × Placement)
  pub inbox_capacity : ℕ
  pub start : ℕ
  pub zone : Zone
