use Rattle.std.proofs.Common.{◌≡◌, map, take}
use Rattle.fare_collect.specs.Session.{id_of}
use Rattle.fare_collect.proofs.collecting.ids_of.Given as goal

abbrev pub invariant-loop-station : goal.invariant-loop-station
invariant-loop-station g l = l.ids.items ≡ map id_of (take l.station-index l.stations)
