use Rattle.std.proofs.Common.{◌≡◌, None}
use Rattle.fare_inbox_queue.specs.InboxPasses.{taken_list, stations_of, IsWriterOf}
use Rattle.fare_writer.specs.Handling.{AreTellers, HasWritten}
use Rattle.fare_collect.proofs.writing.write_all.Given as goal

abbrev pub invariant-loop : goal.invariant-loop
invariant-loop g l =
    IsWriterOf l.inbox l.writer
    × (stations_of l.writer ≡ stations_of l.fn.writer)
    × AreTellers l.lines l.tellers
    × HasWritten l.floor.scheme.now (g.O.Outbox.standing l.fn.outbox) (g.O.Outbox.standing l.outbox) (taken_list l.writer) l.fn.tellers l.tellers l.fn.tally l.tally None
