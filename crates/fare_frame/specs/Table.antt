-- The table of frames: the type byte and the length field of each kind.
use Rattle.std.specs.Prelude.{ℕ, List, [], ◌∷◌, ◌++◌}
use Rattle.byteorder.specs.Endian.{big_bytes}
use Rattle.fare_frame.specs.declared.kind.Kind.{Kind}
use Rattle.fare_frame.specs.declared.kind.Kind.TheVariants.{Tapped, Stated, Acked, DayAcked, Greeted, Routed}

-- the type byte
abbrev pub code_of : Kind → ℕ
code_of Tapped = 1
code_of Stated = 2
code_of Acked = 3
code_of DayAcked = 4
code_of Greeted = 5
code_of Routed = 6

-- the length field, which counts the type and the body
abbrev pub length_of : Kind → ℕ
length_of Tapped = 47
length_of Stated = 19
length_of Acked = 13
length_of DayAcked = 9
length_of Greeted = 7
length_of Routed = 49

-- the three bytes before the body
abbrev pub head_of : Kind → List ℕ
head_of k = big_bytes 2 (length_of k) ++ code_of k ∷ []
