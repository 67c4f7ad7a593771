use Rattle.std.proofs.Common.{◌≡◌, ◌-◌, take, drop}
use Rattle.fare_lists.specs.Lists.{cells}
use Rattle.fare_lists.proofs.reading.numbers_of.Given as goal

abbrev pub invariant-loop-at : goal.invariant-loop-at
invariant-loop-at l = take (l.at - 1) (drop 1 l.row) ≡ cells l.numbers.items
