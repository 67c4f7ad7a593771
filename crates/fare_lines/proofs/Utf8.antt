-- The text of a zone is ASCII.
use Rattle.std.proofs.Common.{◌≤◌, ◌<◌, ℕ, List, [], ◌∷◌, get_or, arith}
use Prim.Native.Nat.{zero, suc}
use Rattle.std.specs.List.{All}
use Rattle.std.specs.Str.{IsUtf8}
use Rattle.std.proofs.lemmas.Str.{IsUtf8-from_ascii}
use Rattle.fare_lines.specs.ZoneWord.{IsZoneText}

small_at : (text : List ℕ) → All (λ b. (33 ≤ b) × (b ≤ 126)) text → (i : ℕ) → get_or text i 0 < 128
small_at [] all i = omega arith
small_at (b ∷ bs) all zero = let byte = all 0 0 (omega arith) in omega arith
small_at (b ∷ bs) all (suc i) = small_at bs (λ k d below. all (suc k) d (omega arith)) i

pub zone_is_utf8 : (text : List ℕ) → IsZoneText text → IsUtf8 text
zone_is_utf8 text word = IsUtf8-from_ascii text (small_at text word.printable)
