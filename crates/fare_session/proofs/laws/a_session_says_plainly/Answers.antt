use Rattle.fare_session.proofs.Plainly.{said_plainly}
use Rattle.fare_session.proofs.laws.a_session_says_plainly.Goals as goal

pub returns : goal.returns
returns g c sc owner report x y l m = said_plainly sc owner (g.O.Outbox.standing x) (g.O.Outbox.standing y) (g.L.Ledger.standing l) (g.L.Ledger.standing m) report
