use Rattle.std.proofs.Common.{◌≡◌}
use Rattle.fare_inbox_queue.specs.InboxPasses.{station_of, sent_list, IsStationOf}
use Rattle.fare_collect.proofs.putting.put.Given as goal

abbrev pub invariant-loop : goal.invariant-loop
invariant-loop g l = IsStationOf l.inbox l.pass × (station_of l.pass ≡ station_of l.fn.pass) × (sent_list l.pass ≡ sent_list l.fn.pass)
