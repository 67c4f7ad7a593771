-- The ranges of a scheme's numbers, and how many of each kind there may be.
use Rattle.std.specs.Prelude.{ℕ, ◌≤◌}

-- what an inbox, an acknowledgement line or a lane queue holds at most
abbrev pub IsCapacity : ℕ → Type 0
IsCapacity n = (1 ≤ n) × (n ≤ 1024)

-- what a device's buffer holds at most
abbrev pub IsBuffer : ℕ → Type 0
IsBuffer n = (1 ≤ n) × (n ≤ 4096)

-- pence
abbrev pub IsFare : ℕ → Type 0
IsFare n = n ≤ 100000

abbrev pub IsDailyCap : ℕ → Type 0
IsDailyCap n = n ≤ 1000000

abbrev pub IsWeeklyCap : ℕ → Type 0
IsWeeklyCap n = n ≤ 10000000

-- seconds
abbrev pub IsHop : ℕ → Type 0
IsHop n = n ≤ 7200
