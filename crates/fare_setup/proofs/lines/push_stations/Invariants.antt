use Rattle.std.proofs.Common.{◌≡◌, ◌++◌, take, map}
use Rattle.fare_setup.specs.SchemeLines.{station_line}
use Rattle.fare_setup.proofs.lines.push_stations.Given as goal

abbrev pub invariant-loop-position : goal.invariant-loop-position
invariant-loop-position l = l.lines.items ≡ l.fn.lines.items ++ map station_line (take l.position l.scheme.stations)
