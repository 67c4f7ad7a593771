use Rattle.std.proofs.Common.{take}
use Rattle.fare_lane_queue.specs.Passes.{IsEnded}
use Rattle.fare_session.specs.Batching.{CameFrom, HasTakenMore}
use Rattle.fare_session.proofs.batching.take_more_left.Given as goal

abbrev pub invariant-loop-place : goal.invariant-loop-place
invariant-loop-place g l = record {
  ended : IsEnded l.ended;
  taken : HasTakenMore (CameFrom l.fn.ended l.ended) (take l.count l.fn.items) (take l.place l.items);
}
