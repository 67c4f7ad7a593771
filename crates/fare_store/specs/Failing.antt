-- An outbox that fails at one of its calls: its count of failures is one more once that call was made.
use Rattle.std.specs.Prelude.{ℕ, ◌+◌, ◌==◌, if◌then◌else◌}
use Rattle.fare_store.specs.Standing.{Standing}

-- by how many calls are left up to that one
abbrev pub failing : {V : Type 0} → ℕ → Standing V → Standing V
failing left s = record s { failures = (if left == 0 then 1 else 0) + s.failures }
