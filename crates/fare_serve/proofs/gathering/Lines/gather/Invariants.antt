use Rattle.std.proofs.Common.{◌≡◌, vec_len}
use Rattle.fare_sessions.specs.Stores.{HasLedgers}
use Rattle.fare_serve.specs.Seats.{AreSeatsGathered, AreSeats}
use Rattle.fare_serve.specs.declared.seats.Rule.TheVariants.{First}
use Rattle.fare_serve.proofs.Rested.{HasPausedTimes}
use Rattle.fare_serve.proofs.gathering.Lines.gather.Given as goal

abbrev pub invariant-loop : goal.invariant-loop
invariant-loop g l = record {
  len : vec_len l.self.seats ≡ vec_len l.fn.self.seats;
  gathered : (l.rule ≡ First → AreSeats l.fn.hub.scheme l.fn.self.seats.items) → AreSeatsGathered l.fn.hub.scheme l.fn.self.seats.items l.self.seats.items;
  paused : HasPausedTimes g.P.Pause.does g.O.Outbox.standing g.L.Ledger.standing l.counter l.fn.hub l.hub;
  ledgers : HasLedgers l.hub;
  counts : l.progress.counts ≡ l.fn.progress.counts;
}
