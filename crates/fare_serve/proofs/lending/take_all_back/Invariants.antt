use Rattle.std.proofs.Common.{vec_len}
use Rattle.fare_serve.proofs.Lent.{AreTaking}
use Rattle.fare_serve.proofs.lending.take_all_back.Given as goal

abbrev pub invariant-loop-station : goal.invariant-loop-station
invariant-loop-station g l = AreTaking l.faults l.fn.stations.items l.stations.items l.fn.seats l.seats

abbrev pub decreases-loop-station : goal.decreases-loop-station
decreases-loop-station g l = vec_len l.stations
