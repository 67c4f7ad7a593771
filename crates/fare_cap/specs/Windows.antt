-- Windows: a paid tap of an account opens one, in which further taps of the account on that day are free.
use Rattle.std.specs.Prelude.{ℕ, ◌+◌, Bool, false, ◌&&◌, nat_lt, nat_le, List, [], ◌∷◌, length, map, Option, Some, None, if◌then◌else◌}
use Rattle.std.specs.List.{last_or}
use Rattle.fare_record.specs.Values.{RecordValue}
use Rattle.fare_cap.specs.declared.day_rides.DayRides.{DayRides}

-- a tap at this moment is free: at most `hop` seconds before it a window was opened. With a hop of 0 no tap is free
abbrev pub is_free : ℕ → Option ℕ → ℕ → Bool
is_free hop None moment = false
is_free hop (Some opened) moment = nat_lt 0 hop && nat_le moment (opened + hop)

-- the paid ones of taps in order, where a window was opened before them, if one was: a tap that is free is left out,
-- and the next one is paid and opens the next window
abbrev pub paid_behind : ℕ → Option ℕ → List RecordValue → List RecordValue
paid_behind hop opened [] = []
paid_behind hop opened (tap ∷ taps) =
    if is_free hop opened tap.tap.moment then paid_behind hop opened taps
    else tap ∷ paid_behind hop (Some tap.tap.moment) taps

-- the paid ones of an account's taps of a day, which stand in order: the first one is paid
abbrev pub paid_taps : ℕ → List RecordValue → List RecordValue
paid_taps hop taps = paid_behind hop None taps

-- how many of them are paid
abbrev pub paid : ℕ → List RecordValue → ℕ
paid hop taps = length (paid_taps hop taps)

-- what is told of an account's taps of a day: how many they are, how many are paid, and the moment of the last paid one
abbrev pub day_rides : ℕ → List RecordValue → DayRides
day_rides hop taps = record {
  taps = length taps;
  paid = paid hop taps;
  opened = last_or None (map (λ (r : RecordValue). r.tap.moment) (paid_taps hop taps));
}

-- the same of no taps
abbrev pub no_rides : DayRides
no_rides = record { taps = 0; paid = 0; opened = None }

-- what is told with one more tap, at a moment, behind them
abbrev pub one_more : ℕ → DayRides → ℕ → DayRides
one_more hop rides moment =
    if is_free hop rides.opened moment then record { taps = rides.taps + 1; paid = rides.paid; opened = rides.opened }
    else record { taps = rides.taps + 1; paid = rides.paid + 1; opened = Some moment }
