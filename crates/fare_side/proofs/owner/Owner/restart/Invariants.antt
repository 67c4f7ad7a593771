use Rattle.std.proofs.Common.{◌≡◌, ℕ, [], None}
use Rattle.circular_buffer.specs.Buffer.{buffer}
use Rattle.fare_side.specs.Resuming.{place_of_cursor, place_at}
use Rattle.fare_side.proofs.Resuming.{resumed_to}
use Rattle.fare_side.proofs.owner.Owner.restart.Given as goal

abbrev pub invariant-loop-place : goal.invariant-loop-place
invariant-loop-place g l = record {
  ledger : l.self.ledger ≡ l.fn.self.ledger;
  standings : l.self.standings ≡ l.fn.self.standings;
  queue : l.self.queue ≡ buffer [] l.fn.self.queue.capacity;
  hand : l.self.hand ≡ None;
  owner : l.self.forwarder.owner ≡ l.fn.self.forwarder.owner;
  lanes : (device : ℕ) → place_of_cursor l.self.forwarder device ≡ resumed_to l.scheme (place_at l.scheme l.fn.self.standings.items) (place_of_cursor l.fn.self.forwarder) l.place device;
}
