use Rattle.fare_session.proofs.Sifts.{InSift}
use Rattle.fare_session.proofs.working.sift.Given as goal

abbrev pub invariant-loop-lane : goal.invariant-loop-lane
invariant-loop-lane g l = InSift (g.L.Ledger.standing l.fn.ledger) (g.L.Ledger.standing l.ledger) l.lanes l.working.items l.lane-index
