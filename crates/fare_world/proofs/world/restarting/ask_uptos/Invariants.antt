use Rattle.std.proofs.Common.{◌≡◌, ◌<◌, ℕ, Some}
use Rattle.std.specs.Prelude.{slice_get}
use Rattle.fare_record.specs.Limits.{IsCount}
use Rattle.fare_store.proofs.Readings.{Since}
use Rattle.fare_side.proofs.Told.{ToldTo}
use Rattle.fare_world.proofs.world.restarting.ask_uptos.Given as goal

abbrev pub invariant-loop-place : goal.invariant-loop-place
invariant-loop-place g l = record {
  read : Since (g.O.Outbox.standing l.fn.outbox) (g.O.Outbox.standing l.outbox) (0 < l.place) (ToldTo l.scheme (g.O.Outbox.standing l.fn.outbox).value.upto l.place l.uptos);
  valid : (k : ℕ) (n : ℕ) → k < l.place → slice_get l.uptos k ≡ Some n → IsCount n;
}
