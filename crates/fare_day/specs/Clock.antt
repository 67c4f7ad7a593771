-- A zone's clock: how far it is ahead of UTC, and what it shows.
use Rattle.std.specs.Prelude.{◌≡◌, ℕ, ℤ, pos, ◌+ℤ◌, List, Some}
use Rattle.jiff_core.specs.Timestamp.{nanos_of_seconds, IsOffsetSeconds}
use Rattle.jiff_tz.specs.PosixReader.{read_whole}
use Rattle.jiff_tz.specs.PosixText.{tz_view}
use Rattle.jiff_tz.specs.Zone.{offset_at as offset_at_nanosecond}
use Rattle.jiff_tz.specs.declared.timezone.TimeZone.{TimeZone}
use Rattle.jiff_tz.specs.declared.timezone.TimeZone.TheVariants.{Posix}
use Rattle.fare_day.specs.declared.zone.Zone.{Zone}

-- the zone is the rule that this text reads as
abbrev pub IsRuleOf : List ℕ → TimeZone → Type 0
IsRuleOf text (Posix rule) = read_whole text ≡ Some (tz_view rule)
IsRuleOf text zone = ⊥

-- the zone goes by the rule that this text reads as
abbrev pub HasRule : Zone → List ℕ → Type 0
HasRule zone text = IsRuleOf text zone.rule

-- how many seconds the clock is ahead of UTC at a moment, by `jiff`
abbrev pub offset_at : Zone → ℕ → ℤ
offset_at zone moment = offset_at_nanosecond zone.rule (nanos_of_seconds (pos moment))

-- a clock is at most 25:59:59 ahead of UTC or behind it
abbrev pub IsOffset : ℤ → Type 0
IsOffset seconds = IsOffsetSeconds seconds

-- what the clock shows at a moment: the seconds from 1970-01-01T00:00:00 on it
abbrev pub local_time : Zone → ℕ → ℤ
local_time zone moment = pos moment +ℤ offset_at zone moment
