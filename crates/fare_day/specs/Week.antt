-- Weeks from Monday to Sunday.
use Rattle.std.specs.Prelude.{◌≡◌, ℕ, ◌+◌, ◌-◌, ◌%◌, ◌≤◌}

-- day 0, 1970-01-01, was a Thursday
abbrev pub IsMonday : ℕ → Type 0
IsMonday day = (day + 3) % 7 ≡ 0

-- the greatest Monday that isn't after the day
pub record IsMondayOf (day monday : ℕ) : Type 0 where
  pub is_monday : IsMonday monday
  pub not_after : monday ≤ day
  pub greatest : (other : ℕ) → IsMonday other → other ≤ day → other ≤ monday

-- the Monday on or before a day, or 0 where that is before day 0
abbrev pub monday_on_or_before : ℕ → ℕ
monday_on_or_before day = day - (day + 3) % 7
