use Rattle.fare_outbox.proofs.Opened.{vacant_of}
use Rattle.fare_trace.proofs.Stores.{outbox_live}
use Rattle.fare_trace.proofs.sql_run.sql_outbox.Goals as goal

pub returns-in-Ok : goal.returns-in-Ok
returns-in-Ok c =
    let made = c.in-Ok.ensures.made (outbox_live c.in-Ok.outbox) (vacant_of _ c.in_ok-database.ensures.empty.2) in
    record { empty = made.1; lawful = made.0 }
