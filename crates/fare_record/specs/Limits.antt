-- The ranges of the numbers.
use Rattle.std.specs.Prelude.{ℕ, ◌≤◌}

abbrev pub IsDeviceId : ℕ → Type 0
IsDeviceId n = (1 ≤ n) × (n ≤ 4294967295)

abbrev pub IsStationId : ℕ → Type 0
IsStationId n = (1 ≤ n) × (n ≤ 65535)

abbrev pub IsOperatorId : ℕ → Type 0
IsOperatorId n = (1 ≤ n) × (n ≤ 65535)

abbrev pub IsOwnerId : ℕ → Type 0
IsOwnerId n = (1 ≤ n) × (n ≤ 65535)

abbrev pub IsProductId : ℕ → Type 0
IsProductId n = (1 ≤ n) × (n ≤ 4294967295)

abbrev pub IsToken : ℕ → Type 0
IsToken n = (1 ≤ n) × (n ≤ 9223372036854775807)

-- days since 1970-01-01
abbrev pub IsDay : ℕ → Type 0
IsDay n = n ≤ 100000

-- seconds since 1970-01-01T00:00:00Z
abbrev pub IsMoment : ℕ → Type 0
IsMoment n = n ≤ 8640200000

-- the number of a route, or 0 where none is known
abbrev pub IsRoute : ℕ → Type 0
IsRoute n = n ≤ 65535

-- a number that a device gave a tap, in its link or in an owner's lane: 1 to 2^40 - 1
abbrev pub IsNumber : ℕ → Type 0
IsNumber n = (1 ≤ n) × (n ≤ 1099511627775)

-- a count of a day's taps, or an acknowledged number: 0 to 2^40 - 1
abbrev pub IsCount : ℕ → Type 0
IsCount n = n ≤ 1099511627775
