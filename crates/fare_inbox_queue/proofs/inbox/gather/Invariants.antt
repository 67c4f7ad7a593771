use Rattle.std.proofs.Common.{◌≡◌, ◌++◌, List, true, map, All, vec_len}
use Rattle.crossbeam_queue.specs.Passes.{view, IsPassOf}
use Rattle.fare_inbox_queue.specs.declared.inbox_passes.StationPass.{StationPass}
use Rattle.fare_inbox_queue.specs.InboxPasses.{sent_with, IsStationOf}
use Rattle.fare_inbox_queue.proofs.inbox.gather.Given as goal

abbrev pub invariant-loop-station : goal.invariant-loop-station
invariant-loop-station l = record {
  queue : IsPassOf l.inbox.queue l.pass;
  takes : (view l.pass).takes ≡ true;
  taken : (view l.pass).taken ≡ (view l.fn.pass).taken;
  seated : (view l.pass).seated ≡ (view l.fn.pass).seated;
  passes : All (IsStationOf l.inbox) l.passes.items;
  ended : (done : List StationPass) × (l.fn.passes.items ≡ l.passes.items ++ done) × ((view l.pass).ended ≡ map sent_with done);
}

abbrev pub decreases-loop-station : goal.decreases-loop-station
decreases-loop-station l = vec_len l.passes
