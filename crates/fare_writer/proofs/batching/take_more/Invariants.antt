use Rattle.std.proofs.Common.{◌≡◌, take}
use Rattle.fare_inbox_queue.specs.InboxPasses.{stations_of, IsWriterOf}
use Rattle.fare_writer.specs.Batches.{HasTakenMore}
use Rattle.fare_writer.proofs.batching.take_more.Given as goal

abbrev pub invariant-loop-place : goal.invariant-loop-place
invariant-loop-place g l = record {
  queue : IsWriterOf l.inbox l.writer;
  stations : stations_of l.writer ≡ stations_of l.fn.writer;
  taken : HasTakenMore l.fn.writer l.writer (take 1 l.fn.items) (take l.place l.items);
}
