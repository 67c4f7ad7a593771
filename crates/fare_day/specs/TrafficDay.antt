-- The traffic day.
use Rattle.std.specs.Prelude.{ℕ, ℤ, pos, ◌-ℤ◌, ◌≤ℤ◌, int_le, Option, Some, None, ◌&&◌, unsigned_abs, if◌then◌else◌}
use Rattle.std.specs.Int.{int_div_euclid, int_rem_euclid}
use Rattle.fare_day.specs.declared.zone.Zone.{Zone}
use Rattle.fare_day.specs.Clock.{local_time}

-- the civil date on a clock, as a number of days since 1970-01-01
abbrev pub civil_date : ℤ → ℤ
civil_date local = int_div_euclid local (pos 86400)

-- the time of day on a clock, in seconds since midnight
abbrev pub time_of_day : ℤ → ℤ
time_of_day local = int_rem_euclid local (pos 86400)

-- the date of a traffic day by what the clock shows: the civil date from 04:30:00 on, else the date before
abbrev pub date_by_clock : ℤ → ℤ
date_by_clock local =
    if int_le (pos 16200) (time_of_day local) then civil_date local else civil_date local -ℤ pos 1

-- the traffic day of a moment, on the zone's clock
abbrev pub traffic_day : Zone → ℕ → ℤ
traffic_day zone moment = date_by_clock (local_time zone moment)

-- days are counted from 0 to 100,000
abbrev pub IsDayNumber : ℤ → Type 0
IsDayNumber day = (pos 0 ≤ℤ day) × (day ≤ℤ pos 100000)

-- that day, where it is one
abbrev pub day_number : ℤ → Option ℕ
day_number day = if int_le (pos 0) day && int_le day (pos 100000) then Some (unsigned_abs day) else None

-- the traffic day of a moment, where it is one from 0 to 100,000
abbrev pub traffic_day_in_range : Zone → ℕ → Option ℕ
traffic_day_in_range zone moment = day_number (traffic_day zone moment)
