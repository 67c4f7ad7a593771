use Rattle.std.proofs.Common.{◌≡◌}
use Rattle.std.specs.Prelude.{vec_capacity}
use Rattle.fare_collect.specs.Opening.{AreRelieving}
use Rattle.fare_collect.proofs.opening.relieve_all.Given as goal

abbrev pub invariant-loop-station : goal.invariant-loop-station
invariant-loop-station g l =
    AreRelieving l.station-index l.fn.stations l.passes.items l.hears.items l.stations
    × (vec_capacity l.passes ≡ vec_capacity l.fn.passes)
    × (vec_capacity l.hears ≡ vec_capacity l.fn.hears)
