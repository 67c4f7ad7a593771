use Rattle.std.proofs.Common.{◌≡◌, take}
use Rattle.sqlite.specs.Values.{bound}
use Rattle.fare_lists.specs.Lists.{row_at}
use Rattle.fare_lists.proofs.writing.cells_of.Given as goal

abbrev pub invariant-loop-number : goal.invariant-loop-number
invariant-loop-number l = bound l.cells.items ≡ row_at l.place (take l.number-index l.numbers)
