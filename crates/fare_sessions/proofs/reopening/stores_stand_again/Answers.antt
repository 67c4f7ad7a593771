use Rattle.fare_sessions.proofs.Again.{begins, stand, lives, sound_again}
use Rattle.fare_sessions.proofs.reopening.stores_stand_again.Goals as goal

pub returns-clause-stand : goal.returns-clause-stand
returns-clause-stand g c = λ old new re k may. stand g.O.Outbox.standing g.L.Ledger.standing g.met.O.Outbox.sound g.met.L.Ledger.sound old new re k may

pub returns-clause-live : goal.returns-clause-live
returns-clause-live g c = λ old new re. lives g.O.Outbox.standing g.L.Ledger.standing g.met.O.Outbox.sound g.met.L.Ledger.sound old new re

pub returns-clause-sound : goal.returns-clause-sound
returns-clause-sound g c = λ old new re owned. sound_again g.O.Outbox.standing g.L.Ledger.standing g.met.O.Outbox.sound g.met.L.Ledger.sound old new re owned

pub returns-clause-begins : goal.returns-clause-begins
returns-clause-begins g c = λ hub live sound. begins g.O.Outbox.standing g.L.Ledger.standing g.met.O.Outbox.sound g.met.L.Ledger.sound hub live sound
