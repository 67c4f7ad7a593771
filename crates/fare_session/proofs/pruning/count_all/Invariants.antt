use Rattle.fare_session.proofs.Prunes.{AreCountedFirst}
use Rattle.fare_session.proofs.pruning.count_all.Given as goal

abbrev pub invariant-loop-place : goal.invariant-loop-place
invariant-loop-place g l = AreCountedFirst (g.L.Ledger.standing l.fn.ledger) (g.L.Ledger.standing l.ledger) l.fn.lanes l.lanes l.place
