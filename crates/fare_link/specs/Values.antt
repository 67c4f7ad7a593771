-- What contracts see of the two ends of a link.
use Rattle.std.specs.Prelude.{ℕ, ◌≤◌}

-- the sending end: the greatest acknowledged number, and the greatest number sent since the last rewind
pub record SenderValue : Type 0 where
  pub base : ℕ
  pub cursor : ℕ

-- what is acknowledged counts as sent
abbrev pub IsSender : SenderValue → Type 0
IsSender s = s.base ≤ s.cursor

-- the receiving end: the number that it accepts next
pub record ReceiverValue : Type 0 where
  pub next : ℕ

-- the next number is 1 to 2^40, one above the greatest link number at the end
abbrev pub IsReceiver : ReceiverValue → Type 0
IsReceiver r = (1 ≤ r.next) × (r.next ≤ 1099511627776)
