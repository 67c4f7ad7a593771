use Rattle.fare_net.proofs.Sources.{listens_none, listens_on}
use Rattle.fare_net.proofs.source.NetSource.read_on.Goals as goal

pub returns-then-not-is_waiting-clause-listens : goal.returns-then-not-is_waiting-clause-listens
returns-then-not-is_waiting-clause-listens g c = listens_none c.args.self.now

pub returns-clause-listens : goal.returns-clause-listens
returns-clause-listens g c = listens_on _ _ _ c.flush.ensures.sends c.fill.ensures.advances
