use Rattle.fare_desk.proofs.Going.{goes_self}
use Rattle.fare_hub_tests.proofs.watching.WatchPause.pause.Goals as goal

pub returns-clause-goes : goal.returns-clause-goes
returns-clause-goes g c = goes_self g.O.Outbox.standing g.L.Ledger.standing c.args._hub.now
