use Rattle.std.proofs.Common.{◌≡◌}
use Rattle.fare_inbox_queue.specs.InboxPasses.{stations_of, IsWriterOf}
use Rattle.fare_core_tests.proofs.inbox_queue.take_all.Given as goal

abbrev pub invariant-loop : goal.invariant-loop
invariant-loop g l = record {
  queue : IsWriterOf l.inbox l.writer;
  stations : stations_of l.writer ≡ stations_of l.fn.writer;
}
