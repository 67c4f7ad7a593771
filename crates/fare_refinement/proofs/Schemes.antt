-- A lawful scheme has room for sessions.
use Rattle.std.proofs.Common.{◌≡◌, ℕ, ◌≤◌, Some, None, true, sym, ◌∙◌, subst}
use Rattle.std.specs.Prelude.{Option, IfSome, IsSome, is_some, unwrap_or}
use Rattle.fare_scheme.specs.Values.{SchemeValue}
use Rattle.fare_scheme.specs.Ranges.{IsCapacity}
use Rattle.fare_scheme.specs.Words.{lane_capacity_of, position_of_station}
use Rattle.fare_scheme.specs.Facts.{IsScheme}
use Rattle.fare_scheme.proofs.Known.{station_is_known, lane_is_valid, some_place}
use Rattle.fare_refinement.specs.Gathered.{HasStations}
use Rattle.fare_refinement.specs.Sessions.{HasLaneRoom}

pub has_stations : (sc : SchemeValue) → IsScheme sc → HasStations sc
has_stations sc is device station of = subst (λ o. IfSome o (λ st. IsSome (position_of_station sc st))) of (station_is_known sc is device)

pub has_lane_room : (sc : SchemeValue) → IsScheme sc → HasLaneRoom sc
has_lane_room sc is owner known = by (lane_capacity_of sc owner) (lane_is_valid sc is owner) (sym (some_place sc.owners owner) ∙ known)
  where
    by : (o : Option ℕ) → IfSome o IsCapacity → is_some o ≡ true → 1 ≤ unwrap_or o 0
    by None valid some = absurd (cc)
    by (Some n) valid some = valid.0

pub has_inbox : (sc : SchemeValue) → IsScheme sc → 1 ≤ sc.inbox_capacity
has_inbox sc is = is.inbox_capacity.0
