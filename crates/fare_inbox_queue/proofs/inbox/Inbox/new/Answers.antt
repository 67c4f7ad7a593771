use Rattle.fare_inbox_queue.proofs.Steps.{opens}
use Rattle.fare_inbox_queue.proofs.inbox.Inbox.new.Goals as goal

pub ruled-requires-clause-rule : goal.ruled-requires-clause-rule
ruled-requires-clause-rule c = opens
