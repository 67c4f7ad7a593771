use Rattle.fare_sessions.proofs.Somethings.{hub_holds, hub_holds_ledger, hub_holds_outbox}
use Rattle.fare_sessions.proofs.reopening.clean_stores_may_hold_something.Goals as goal

pub returns-clause-some : goal.returns-clause-some
returns-clause-some g c = λ hub clean. hub_holds g.O.Outbox.standing g.L.Ledger.standing g.met.O.Outbox.sound g.met.L.Ledger.sound hub clean

pub returns-clause-outbox : goal.returns-clause-outbox
returns-clause-outbox g c = λ hub clean x may. hub_holds_outbox g.O.Outbox.standing g.L.Ledger.standing g.met.O.Outbox.sound g.met.L.Ledger.sound hub clean x may

pub returns-clause-ledger : goal.returns-clause-ledger
returns-clause-ledger g c = λ hub clean owner y of l may. hub_holds_ledger g.O.Outbox.standing g.L.Ledger.standing g.met.O.Outbox.sound g.met.L.Ledger.sound hub clean owner y of l may
