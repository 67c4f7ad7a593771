use Rattle.fare_collect.proofs.Begins.{AreBeginning}
use Rattle.fare_collect.proofs.collecting.begin.Given as goal

abbrev pub invariant-loop-station : goal.invariant-loop-station
invariant-loop-station g l = AreBeginning l.station-index l.fn.stations l.stations
