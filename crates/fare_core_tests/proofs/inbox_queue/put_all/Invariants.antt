use Rattle.std.proofs.Common.{◌≡◌, ◌≤◌}
use Rattle.fare_inbox_queue.specs.InboxPasses.{station_of, IsStationOf}
use Rattle.fare_core_tests.proofs.inbox_queue.put_all.Given as goal

abbrev pub invariant-loop : goal.invariant-loop
invariant-loop g l = record {
  queue : IsStationOf l.inbox l.pass;
  station : station_of l.pass ≡ station_of l.fn.pass;
  some_link : 1 ≤ l.link;
  last : l.link ≤ 101;
}
