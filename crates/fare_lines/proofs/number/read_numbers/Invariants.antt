use Rattle.std.proofs.Common.{◌≡◌, ◌++◌, length}
use Rattle.std.specs.List.{AllByRecursion}
use Rattle.fare_lines.specs.Reading.{BeginsWith, is_feed}
use Rattle.fare_lines.proofs.Numbers.{IsU64}
use Rattle.fare_lines.proofs.Spaced.{spaced}
use Rattle.fare_lines.proofs.number.read_numbers.Given as goal

abbrev pub invariant-loop-number : goal.invariant-loop-number
invariant-loop-number l = record {
  some : BeginsWith is_feed l.text → ⊥;
  fits : AllByRecursion IsU64 l.numbers.items;
  is : l.text ≡ spaced l.numbers.items ++ l.rest;
}

abbrev pub decreases-loop-number : goal.decreases-loop-number
decreases-loop-number l = length l.rest
