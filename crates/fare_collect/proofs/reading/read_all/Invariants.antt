use Rattle.std.proofs.Common.{◌≡◌, None, false}
use Rattle.fare_inbox_queue.specs.InboxPasses.{station_of, sent_list, IsStationOf}
use Rattle.fare_inbox_queue.specs.LinePasses.{heard_list, IsHearOf}
use Rattle.fare_collector.specs.Collecting.{next_in}
use Rattle.fare_collect.specs.Stations.{HasRead}
use Rattle.fare_collect.proofs.reading.read_all.Given as goal

abbrev pub invariant-loop : goal.invariant-loop
invariant-loop g l =
    (IsStationOf l.inbox l.post.pass × IsHearOf l.line l.post.hear)
    × ((l.post.held ≡ None) × (l.post.ended ≡ false) × (l.post.fault ≡ None))
    × ((station_of l.post.pass ≡ station_of l.fn.post.pass) × (l.collector.station ≡ l.fn.collector.station))
    × HasRead l.floor.scheme.now (station_of l.fn.post.pass) (g.S.Source.talk l.fn.source) (g.S.Source.talk l.source) (next_in l.fn.collector) (next_in l.collector) (sent_list l.fn.post.pass) (sent_list l.post.pass) (heard_list l.fn.post.hear) (heard_list l.post.hear) None false None
