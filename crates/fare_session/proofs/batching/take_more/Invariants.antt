use Rattle.std.proofs.Common.{take}
use Rattle.fare_lane_queue.specs.Passes.{IsOwnerOf}
use Rattle.fare_session.specs.Batching.{CameWith, HasTakenMore}
use Rattle.fare_session.proofs.batching.take_more.Given as goal

abbrev pub invariant-loop-place : goal.invariant-loop-place
invariant-loop-place g l = record {
  queue : IsOwnerOf l.line l.pass;
  taken : HasTakenMore (CameWith l.fn.pass l.pass) (take l.count l.fn.items) (take l.place l.items);
}
