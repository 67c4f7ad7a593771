use Rattle.std.proofs.Common.{take}
use Rattle.fare_inbox_queue.specs.InboxPasses.{IsInboxEnded}
use Rattle.fare_writer.specs.Keeping.{HasTakenLeft}
use Rattle.fare_writer.proofs.keeping.take_left.Given as goal

abbrev pub invariant-loop-place : goal.invariant-loop-place
invariant-loop-place g l = record {
  ended : IsInboxEnded l.ended;
  taken : HasTakenLeft l.fn.ended l.ended (take 1 l.fn.items) (take l.place l.items);
}
