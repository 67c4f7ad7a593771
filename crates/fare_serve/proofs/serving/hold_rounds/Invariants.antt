use Rattle.std.proofs.Common.{◌≡◌, ◌≤◌, length, vec_len}
use Rattle.fare_serve.proofs.Held.{HaveBeenSeated}
use Rattle.fare_serve.proofs.serving.hold_rounds.Given as goal

abbrev pub invariant-loop-round : goal.invariant-loop-round
invariant-loop-round g l = record {
  seated : HaveBeenSeated g.P.Pause.does g.O.Outbox.standing g.L.Ledger.standing l.fn.hub l.hub l.whole l.round l.progress.counts l.lines.seats.items;
  ledgers : length l.hub.ledgers.items ≡ length l.hub.scheme.owners;
  seats : vec_len l.lines.seats ≡ length l.hub.scheme.stations;
  few : vec_len l.lines.seats ≤ 16;
}
