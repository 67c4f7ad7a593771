-- The versions of the frames that are spoken.
use Rattle.std.specs.Prelude.{ℕ, ◌≤◌}

abbrev pub IsSpoken : ℕ → Type 0
IsSpoken version = (1 ≤ version) × (version ≤ 2)
