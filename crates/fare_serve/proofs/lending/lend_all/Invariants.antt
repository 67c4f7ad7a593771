use Rattle.std.proofs.Common.{◌≡◌, ◌≤◌, true, length, vec_len, vec_capacity}
use Rattle.fare_serve.specs.Serving.{AreWhole}
use Rattle.fare_serve.proofs.Lent.{AreLending}
use Rattle.fare_serve.proofs.lending.lend_all.Given as goal

abbrev pub invariant-loop-seat : goal.invariant-loop-seat
invariant-loop-seat l = record {
  made : vec_len l.shifts ≡ l.seat-index;
  room : length l.fn.seats ≤ vec_capacity l.shifts;
  seats : length l.seats ≡ length l.fn.seats;
  whole : l.whole ≡ true → AreWhole l.shifts.items;
  lent : AreLending l.whole l.fn.seats l.seats l.shifts.items l.seat-index;
}
