use Rattle.std.proofs.Common.{◌≡◌, [], take, map, All}
use Rattle.fare_inbox_queue.specs.InboxPasses.{station_of, sent_list, taken_list, stations_of, IsStationOf, IsWriterOf}
use Rattle.fare_inbox_queue.proofs.inbox.seat_all.Given as goal

abbrev pub ghosts-seated : goal.ghosts-seated
ghosts-seated a = record { station = a.station }

abbrev pub invariant-loop-index : goal.invariant-loop-index
invariant-loop-index l = record {
  writer : IsWriterOf l.inbox l.writer;
  taken : taken_list l.writer ≡ taken_list l.fn.writer;
  stations : stations_of l.writer ≡ take l.index l.stations;
  passes : All (IsStationOf l.inbox) l.passes.items;
  named : map station_of l.passes.items ≡ take l.index l.stations;
  sent : All (λ pass. sent_list pass ≡ []) l.passes.items;
}
