use Rattle.std.proofs.Common.{◌≡◌, ◌++◌, map, length}
use Rattle.fare_collect.specs.declared.station.Station.{Station}
use Rattle.fare_scripts.specs.declared.scripts.Script.{Script}
use Rattle.fare_scripts.proofs.scripts.sources_of.Given as goal

abbrev pub invariant-loop-station : goal.invariant-loop-station
invariant-loop-station l = map (λ (s : Station Script). s.source) l.stations.items ++ l.sources.items ≡ map (λ (s : Station Script). s.source) l.fn.stations.items

abbrev pub decreases-loop-station : goal.decreases-loop-station
decreases-loop-station l = length l.stations.items
