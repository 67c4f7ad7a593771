use Rattle.std.proofs.Common.{◌≡◌, ℕ, Some, length}
use Rattle.std.specs.Prelude.{slice_get}
use Rattle.fare_world.specs.declared.world.fresh.Side.{Side}
use Rattle.fare_world.specs.Fresh.{IsSideAt}
use Rattle.fare_world.proofs.world.fresh.fresh_sides.Given as goal

abbrev pub invariant-loop-owner : goal.invariant-loop-owner
invariant-loop-owner l = record {
  count : length l.sides.items ≡ l.owner-index;
  each : (k : ℕ) (x : Side) → slice_get l.sides.items k ≡ Some x → IsSideAt l.scheme k x;
}
