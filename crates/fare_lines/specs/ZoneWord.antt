-- The text of a zone's rule in a line.
use Rattle.std.specs.Prelude.{ℕ, ◌≤◌, List, All, length}

-- one or more bytes from 33 to 126
pub record IsZoneText (text : List ℕ) : Type 0 where
  pub some : 1 ≤ length text
  pub printable : All (λ b. (33 ≤ b) × (b ≤ 126)) text
