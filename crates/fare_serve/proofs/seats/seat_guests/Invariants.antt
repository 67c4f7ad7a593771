use Rattle.fare_serve.specs.Seats.{AreSeatsAfter}
use Rattle.fare_serve.proofs.seats.seat_guests.Given as goal

abbrev pub invariant-loop : goal.invariant-loop
invariant-loop g l = AreSeatsAfter l.scheme l.rule l.fn.seats l.seats
