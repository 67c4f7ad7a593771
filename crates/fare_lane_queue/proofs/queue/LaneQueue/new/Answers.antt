use Rattle.fare_lane_queue.proofs.Steps.{opens}
use Rattle.fare_lane_queue.proofs.queue.LaneQueue.new.Goals as goal

pub ruled-requires-clause-rule : goal.ruled-requires-clause-rule
ruled-requires-clause-rule c = opens
