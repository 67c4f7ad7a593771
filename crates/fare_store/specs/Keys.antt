-- Keys of several numbers, in the order of their parts from the first on.
use Rattle.std.specs.Prelude.{ℕ, Bool, ◌&&◌, nat_eq}
use Rattle.std.specs.declared.cmp.Ordering.{Ordering}
use Rattle.std.specs.Ordering.{ordering_then, nat_cmp}

-- three numbers, as an owner, a device and a lane number
abbrev pub Key : Type 0
Key = ℕ × ℕ × ℕ

abbrev pub key_order : Key → Key → Ordering
key_order a b = ordering_then (ordering_then (nat_cmp a.0 b.0) (nat_cmp a.1 b.1)) (nat_cmp a.2 b.2)

-- an owner and a device
abbrev pub same_lane : ℕ × ℕ → ℕ × ℕ → Bool
same_lane a b = nat_eq a.0 b.0 && nat_eq a.1 b.1
