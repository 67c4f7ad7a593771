use Rattle.sqlite.specs.Held.{state}
use Rattle.fare_databases.proofs.Staying.{outbox_stays}
use Rattle.fare_databases.proofs.opening.outbox_in.Goals as goal

pub returns-in-Err-default-Memory-clause-stays : goal.returns-in-Err-default-Memory-clause-stays
returns-in-Err-default-Memory-clause-stays g c = outbox_stays (state g.S.Store c.args.database) (state g.S.Store c.in-Err-default-Memory.database) c.in-Err-default-Memory.ensures.crash_refused

pub returns-in-Err-default-Foreign : goal.returns-in-Err-default-Foreign
returns-in-Err-default-Foreign g c = record { opened = tt; stays = outbox_stays (state g.S.Store c.args.database) (state g.S.Store c.in-Err-default-Foreign.database) c.in-Err-default-Foreign.ensures.crash_refused }
