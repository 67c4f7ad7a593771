use Rattle.fare_ledger.proofs.Opened.{vacant_of}
use Rattle.fare_trace.proofs.Stores.{ledger_live}
use Rattle.fare_trace.proofs.sql_run.sql_ledger.Goals as goal

pub returns-in-Ok-clause-new : goal.returns-in-Ok-clause-new
returns-in-Ok-clause-new c =
    let made = c.in-Ok.ensures.made (ledger_live c.in-Ok.ledger) (vacant_of _ c.in_ok-database.ensures.empty.2) in
    record { empty = made.1; made = c.in-Ok.ensures.scheme; lawful = made.0 }
