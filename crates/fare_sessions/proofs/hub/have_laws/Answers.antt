use Rattle.fare_sessions.proofs.hub.have_laws.Goals as goal

pub returns-clause-outbox : goal.returns-clause-outbox
returns-clause-outbox g c = λ x. g.met.O.Outbox.sound x

pub returns-clause-ledger : goal.returns-clause-ledger
returns-clause-ledger g c = λ x. g.met.L.Ledger.sound x
