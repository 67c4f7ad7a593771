use Rattle.std.specs.List.{flat_map}
use Rattle.fare_serve.specs.Rounds.{calls_of}
use Rattle.fare_serve.specs.Serving.{shift_talk}
use Rattle.fare_serve.proofs.Rested.{nothing_owned}
use Rattle.fare_serve.proofs.Spaced.{spaced_still, stopped_still}
use Rattle.fare_serve.proofs.laws.rest_does_nothing.Goals as goal

pub returns-clause-rounds : goal.returns-clause-rounds
returns-clause-rounds g c = λ old new rounds served. spaced_still shift_talk g.O.Outbox.standing g.L.Ledger.standing old new (flat_map calls_of rounds) served.held

pub returns-clause-stopped : goal.returns-clause-stopped
returns-clause-stopped g c = λ old new fault s. stopped_still shift_talk g.O.Outbox.standing g.L.Ledger.standing old new fault s

pub returns-clause-owners : goal.returns-clause-owners
returns-clause-owners g c = nothing_owned g.O.Outbox.standing g.L.Ledger.standing
