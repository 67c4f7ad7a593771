use Rattle.std.proofs.Common.{◌≡◌, ◌++◌, take}
use Rattle.std.specs.Prelude.{string_bytes}
use Rattle.fare_serve.specs.Counting.{taken_lines}
use Rattle.fare_serve.proofs.counts.add_all_taken.Given as goal

abbrev pub invariant-loop-one : goal.invariant-loop-one
invariant-loop-one l = string_bytes l.text ≡ string_bytes l.fn.text ++ taken_lines (take l.one-index l.taken)
