use Rattle.std.proofs.Common.{◌≤◌, ◌-◌, None, length, take}
use Rattle.fare_writer.specs.Keeping.{HasKept}
use Rattle.fare_writer.proofs.keeping.keep_all.Given as goal

abbrev pub invariant-loop-place : goal.invariant-loop-place
invariant-loop-place g l = record {
  inside : l.place ≤ length l.items;
  room : length l.items ≤ length l.rows;
  kept : HasKept l.scheme (g.O.Outbox.standing l.fn.outbox) (g.O.Outbox.standing l.outbox) (take l.place l.items) l.fn.tally l.tally None;
}

abbrev pub decreases-loop-place : goal.decreases-loop-place
decreases-loop-place g l = length l.items - l.place
