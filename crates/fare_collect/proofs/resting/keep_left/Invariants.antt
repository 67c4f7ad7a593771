use Rattle.std.proofs.Common.{None}
use Rattle.fare_inbox_queue.specs.InboxPasses.{IsInboxEnded}
use Rattle.fare_collect.specs.Resting.{HasKeepingLeft}
use Rattle.fare_collect.proofs.resting.keep_left.Given as goal

abbrev pub invariant-loop : goal.invariant-loop
invariant-loop g l = IsInboxEnded l.ended × HasKeepingLeft l.scheme (g.O.Outbox.standing l.fn.outbox) (g.O.Outbox.standing l.outbox) l.fn.ended l.ended l.fn.tally l.tally None
