use Rattle.fare_world.specs.Restarts.{IsStationAgain}
use Rattle.fare_world.proofs.Pairs.{PairedTo}
use Rattle.fare_world.proofs.world.restarting.restart_stations.Given as goal

abbrev pub invariant-loop-station : goal.invariant-loop-station
invariant-loop-station l = PairedTo (IsStationAgain l.scheme l.uptos) l.fn.stations l.stations l.station-index
