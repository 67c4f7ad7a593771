use Rattle.std.proofs.Common.{length}
use Rattle.fare_collect.proofs.Makes.{AreMade}
use Rattle.fare_collect.proofs.making.stations_of.Given as goal

abbrev pub invariant-loop-source : goal.invariant-loop-source
invariant-loop-source g l = AreMade l.scheme l.fn.sources.items l.sources.items l.stations.items

abbrev pub decreases-loop-source : goal.decreases-loop-source
decreases-loop-source g l = length l.sources.items
