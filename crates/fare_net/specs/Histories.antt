-- What the logs of a stream are read as.
use Rattle.std.specs.Prelude.{ℕ, List, map, take}
use Rattle.std.specs.List.{flat_map}
use Rattle.fare_frame.specs.declared.frame.Frame.{Frame}

-- the bytes of all reads, each the front of its buffer
abbrev pub bytes_of : List (List ℕ × ℕ) → List ℕ
bytes_of reads = flat_map (λ r. take r.1 r.0) reads

abbrev pub frames_in : List (Frame × Unit {0}) → List Frame
frames_in log = map (λ entry. entry.0) log
