-- Which devices are known, by a set of them.
use Rattle.std.specs.Prelude.{ℕ, nat_eq, Bool}
use Rattle.std.specs.HashSet.{HashSet, contains}

abbrev pub knows : {S : Type 0} → HashSet ℕ S → ℕ → Bool
knows devices device = contains nat_eq devices device
