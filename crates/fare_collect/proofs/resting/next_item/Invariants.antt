use Rattle.std.specs.Prelude.{[]}
use Rattle.fare_collect.specs.Resting.{HasPassed, IsGoing}
use Rattle.fare_collect.proofs.resting.next_item.Given as goal

abbrev pub invariant-loop : goal.invariant-loop
invariant-loop g l = HasPassed l.scheme g.S.Source.talk l.id l.fn.station l.station [] × IsGoing l.station.end
