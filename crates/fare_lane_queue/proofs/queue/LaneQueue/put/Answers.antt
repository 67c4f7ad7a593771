use Rattle.std.proofs.Common.{arith}
use Rattle.fare_lane_queue.proofs.Steps.{puts, stands, stands_sent}
use Rattle.fare_lane_queue.proofs.queue.LaneQueue.put.Goals as goal

pub push_as-requires-clause-rule : goal.push_as-requires-clause-rule
push_as-requires-clause-rule g c = (puts _ _ _ _ c.requires.queue.puts c.requires.next, stands _ _)

pub returns-in-Err-clause-enough : goal.returns-in-Err-clause-enough
returns-in-Err-clause-enough g c =
    let held = c.in-Err.ensures.rule.2 in
    let sent = stands_sent _ held.0 c.requires.queue.puts held.2 in omega arith
