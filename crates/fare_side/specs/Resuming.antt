-- What a restart is told, and where a station and a forwarder go on by it.
use Rattle.std.specs.Prelude.{◌≡◌, ℕ, List, Option, Some, length, slice_get, unwrap_or, option_map, option_and_then}
use Rattle.fare_scheme.specs.Values.{SchemeValue}
use Rattle.fare_scheme.specs.Words.{position_of_device}
use Rattle.fare_route.specs.declared.forwarder.Forwarder.{Forwarder}
use Rattle.fare_route.specs.Routing.{cursor_of, first_day}
use Rattle.fare_store.specs.LedgerWords.{LedgerValue, closed_through}

-- how far a forwarder has come with a device: the lane number of the last tap, and the first day whose statement was not handed on
abbrev pub place_of_cursor : Forwarder → ℕ → Option (ℕ × ℕ)
place_of_cursor f device = option_map (λ c. (c.lane, c.day)) (cursor_of f device)

-- how far each device of the scheme is had, in order of registration
pub record AreUptos (sc : SchemeValue) (upto : ℕ → ℕ) (uptos : List ℕ) : Type 0 where
  pub count : length uptos ≡ length sc.devices
  pub each : (device k n : ℕ) → position_of_device sc device ≡ Some k → slice_get uptos k ≡ Some n → n ≡ upto device

-- how far a device is had by such a list
abbrev pub upto_at : SchemeValue → List ℕ → ℕ → ℕ
upto_at sc uptos device = unwrap_or (option_and_then (slice_get uptos) (position_of_device sc device)) 0

-- for each device of the scheme, in order of registration, how many taps are taken and the last closed day
pub record AreStandings (sc : SchemeValue) (v : LedgerValue) (standings : List (ℕ × Option ℕ)) : Type 0 where
  pub count : length standings ≡ length sc.devices
  pub each : (device k : ℕ) (p : ℕ × Option ℕ) → position_of_device sc device ≡ Some k → slice_get standings k ≡ Some p → p ≡ (length (v.taken device), closed_through v device)

-- where a forwarder goes on with a device by such a list: behind the taken taps, and at the day after the last closed one
abbrev pub place_at : SchemeValue → List (ℕ × Option ℕ) → ℕ → ℕ × ℕ
place_at sc standings device = unwrap_or (option_map (λ p. (p.0, first_day sc.start p.1)) (option_and_then (slice_get standings) (position_of_device sc device))) (0, sc.start)
