use Rattle.fare_inbox_queue.proofs.LineSteps.{opens, splits}
use Rattle.fare_inbox_queue.proofs.ack_line.AckLine.new.Goals as goal

pub ruled-requires-clause-rule : goal.ruled-requires-clause-rule
ruled-requires-clause-rule c = opens

pub another-other-requires-clause-rule : goal.another-other-requires-clause-rule
another-other-requires-clause-rule c = splits _ _ c.in-Ok.ensures.3
