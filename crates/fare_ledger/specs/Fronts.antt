-- Where the first tap stands that stays.
use Rattle.std.specs.Prelude.{ℕ, ◌-◌, Option, Some, None}

-- how many taps stand before the one with this lane number, or in all
abbrev pub before_first : Option ℕ → ℕ → ℕ
before_first None taken = taken
before_first (Some lane) taken = lane - 1
