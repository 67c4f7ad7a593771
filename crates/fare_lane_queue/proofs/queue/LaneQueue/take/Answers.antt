use Rattle.fare_lane_queue.proofs.Steps.{takes, stands}
use Rattle.fare_lane_queue.proofs.queue.LaneQueue.take.Goals as goal

pub pop_as-requires-clause-rule : goal.pop_as-requires-clause-rule
pop_as-requires-clause-rule g c = (takes _ _ c.requires.takes, stands _ _)
