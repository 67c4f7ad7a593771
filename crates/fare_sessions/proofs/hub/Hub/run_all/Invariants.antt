use Rattle.fare_sessions.proofs.Going.{StandsAt}
use Rattle.fare_sessions.proofs.hub.Hub.run_all.Given as goal

abbrev pub invariant-loop-place : goal.invariant-loop-place
invariant-loop-place g l = StandsAt g.S.Source.talk g.O.Outbox.standing g.L.Ledger.standing l.fn.self l.self l.fn.sessions l.sessions l.place l.fn.course l.course
