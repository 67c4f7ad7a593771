use Rattle.fare_inbox_queue.proofs.LineSteps.{takes, stands}
use Rattle.fare_inbox_queue.proofs.ack_line.AckLine.take.Goals as goal

pub pop_as-requires-clause-rule : goal.pop_as-requires-clause-rule
pop_as-requires-clause-rule g c = (takes _ _ c.requires.takes, stands _ _)
