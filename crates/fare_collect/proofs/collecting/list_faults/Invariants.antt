use Rattle.std.proofs.Common.{◌≡◌, ◌+◌, ◌≤◌, ◌++◌, length, take}
use Rattle.std.specs.Prelude.{vec_len, vec_capacity}
use Rattle.fare_collect.specs.Collected.{station_faults}
use Rattle.fare_collect.proofs.collecting.list_faults.Given as goal

abbrev pub invariant-loop-station : goal.invariant-loop-station
invariant-loop-station g l = (vec_len l.faults + length l.stations ≤ vec_capacity l.faults + l.station-index) × (l.faults.items ≡ l.fn.faults.items ++ station_faults (take l.station-index l.stations))
