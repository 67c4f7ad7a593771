use Rattle.std.proofs.Common.{◌≡◌, ◌<◌, length}
use Rattle.fare_store.proofs.Readings.{Since}
use Rattle.fare_side.proofs.Told.{ToldTo, standing_of}
use Rattle.fare_side.proofs.owner.Owner.ask.Given as goal

abbrev pub invariant-loop-place : goal.invariant-loop-place
invariant-loop-place g l = record {
  read : Since (g.L.Ledger.standing l.fn.self.ledger) (g.L.Ledger.standing l.self.ledger) (0 < l.place) (ToldTo l.scheme (standing_of (g.L.Ledger.standing l.fn.self.ledger).value) l.place l.self.standings.items);
  count : length l.self.standings.items ≡ length l.fn.self.standings.items;
  queue : l.self.queue ≡ l.fn.self.queue;
  hand : l.self.hand ≡ l.fn.self.hand;
  forwarder : l.self.forwarder ≡ l.fn.self.forwarder;
}
