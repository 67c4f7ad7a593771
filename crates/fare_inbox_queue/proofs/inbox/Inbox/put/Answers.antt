use Rattle.std.proofs.Common.{sym, ◌∙◌}
use Rattle.fare_inbox_queue.proofs.Steps.{puts, stands}
use Rattle.fare_inbox_queue.proofs.inbox.Inbox.put.Goals as goal

pub push_as-requires-clause-rule : goal.push_as-requires-clause-rule
push_as-requires-clause-rule g c = (puts _ _ _ _ c.requires.queue.puts (c.requires.station ∙ sym c.requires.queue.named), stands _ _)
