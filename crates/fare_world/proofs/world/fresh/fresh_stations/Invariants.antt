use Rattle.std.proofs.Common.{◌≡◌, ℕ, Some, length}
use Rattle.std.specs.Prelude.{slice_get}
use Rattle.fare_side.specs.declared.station.Station.{Station}
use Rattle.fare_world.specs.Fresh.{IsFreshStation}
use Rattle.fare_world.proofs.world.fresh.fresh_stations.Given as goal

abbrev pub invariant-loop-id : goal.invariant-loop-id
invariant-loop-id l = record {
  count : length l.stations.items ≡ l.id-index;
  each : (k : ℕ) (x : Station) → slice_get l.stations.items k ≡ Some x → IsFreshStation l.scheme k x;
}
