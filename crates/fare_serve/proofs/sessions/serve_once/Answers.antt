use Rattle.fare_serve.proofs.Counted.{served_result}
use Rattle.fare_serve.proofs.sessions.serve_once.Goals as goal

pub returns-clause-held : goal.returns-clause-held
returns-clause-held g c = served_result g.S.Source.talk g.O.Outbox.standing g.L.Ledger.standing c.args.hub.now c.hold.new.hub c.args.owner c.hold.new.sessions c.hold.result c.hold.ensures.held c.hold.ensures.unended
