-- Days that are gone through one after the other.
use Rattle.std.specs.Prelude.{ℕ, ◌≡◌, ◌<◌, ◌≤◌, ◌+◌, max, Option, Some, None}

-- those from the next one on before the end
pub record Span : Type 0 where
  pub next : ℕ
  pub end : ℕ

-- what the next of them is, and what is left behind it
abbrev pub NextOf : Span → Option ℕ → Span → Type 0
NextOf s (Some day) t = (day ≡ s.next) × (s.next < s.end) × (t ≡ record s { next = s.next + 1 })
NextOf s None t = (s.end ≤ s.next) × (t ≡ s)

-- they are what is left of those from one day on before another
pub record AreLeft (from end : ℕ) (s : Span) : Type 0 where
  pub begun : from ≤ s.next
  pub within : s.next ≤ max from end
  pub last : s.end ≡ end
