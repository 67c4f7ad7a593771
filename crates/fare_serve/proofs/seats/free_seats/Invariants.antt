use Rattle.std.proofs.Common.{◌≡◌, vec_len}
use Rattle.fare_serve.specs.Seats.{AreFree}
use Rattle.fare_serve.proofs.seats.free_seats.Given as goal

abbrev pub invariant-loop : goal.invariant-loop
invariant-loop l = record {
  made : vec_len l.seats ≡ l.counter;
  free : AreFree l.seats.items;
}
