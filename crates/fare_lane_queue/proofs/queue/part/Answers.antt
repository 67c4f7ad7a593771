use Rattle.fare_lane_queue.proofs.Steps.{splits}
use Rattle.fare_lane_queue.proofs.queue.part.Goals as goal

pub another-requires-clause-rule : goal.another-requires-clause-rule
another-requires-clause-rule g c = splits _ _ _ c.requires.first
