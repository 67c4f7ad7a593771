-- The traffic days of a scheme, as another one tells them.
use Rattle.std.specs.Prelude.{◌≡◌, ℕ, List}
use Rattle.fare_day.specs.Clock.{HasRule}
use Rattle.fare_day.specs.TrafficDay.{traffic_day, traffic_day_in_range}
use Rattle.fare_scheme.specs.Values.{SchemeValue}

-- they begin with the same one, and a clock that goes by the rule of a text goes by it still: each moment is of the
-- same traffic day
pub record KeepsDays (kept later : SchemeValue) : Type 0 where
  pub start : kept.start ≡ later.start
  pub rule : (text : List ℕ) → HasRule kept.zone text → HasRule later.zone text
  pub day : (text : List ℕ) (moment : ℕ) → HasRule kept.zone text → traffic_day kept.zone moment ≡ traffic_day later.zone moment
  pub in_range : (text : List ℕ) (moment : ℕ) → HasRule kept.zone text → traffic_day_in_range kept.zone moment ≡ traffic_day_in_range later.zone moment
