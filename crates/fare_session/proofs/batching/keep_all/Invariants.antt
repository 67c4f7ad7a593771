use Rattle.std.proofs.Common.{◌≤◌, ◌-◌, [], None, length, take}
use Rattle.fare_session.specs.Taking.{IsTaken}
use Rattle.fare_session.proofs.batching.keep_all.Given as goal

abbrev pub invariant-loop-place : goal.invariant-loop-place
invariant-loop-place g l = record {
  inside : l.place ≤ length l.items;
  room : length l.items ≤ length l.rows;
  taken : IsTaken (g.L.Ledger.standing l.fn.ledger) (g.L.Ledger.standing l.ledger) (take l.place l.items) None [] None l.fn.taken l.taken;
}

abbrev pub decreases-loop-place : goal.decreases-loop-place
decreases-loop-place g l = length l.items - l.place
