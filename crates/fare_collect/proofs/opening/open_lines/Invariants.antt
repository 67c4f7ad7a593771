use Rattle.fare_collect.specs.Opening.{AreNew}
use Rattle.fare_collect.proofs.opening.open_lines.Given as goal

abbrev pub invariant-loop-index : goal.invariant-loop-index
invariant-loop-index l = AreNew l._index l.lines.items l.tellers.items l.hears.items
