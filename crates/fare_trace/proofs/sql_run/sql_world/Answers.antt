use Rattle.std.proofs.Common.{sym, subst}
use Rattle.fare_world.specs.System.{start}
use Rattle.fare_world.specs.Whole.{StandsAt}
use Rattle.fare_trace.specs.Stores.{sql_ledger_is, sql_outbox_is}
use Rattle.fare_trace.proofs.Stores.{ready}
use Rattle.fare_trace.proofs.sql_run.sql_world.Goals as goal

pub returns-in-Ok-clause-new : goal.returns-in-Ok-clause-new
returns-in-Ok-clause-new c =
    let stands = c.in-Ok.ensures.start (ready sql_outbox_is sql_ledger_is c.args.scheme c.in_ok-outbox.outbox c.in_ok-ledgers.ledgers.items c.in_ok-outbox.ensures c.in_ok-ledgers.ensures) in
    subst (λ sc. StandsAt sql_outbox_is sql_ledger_is c.in-Ok.world (start sc)) (sym c.in-Ok.ensures.scheme) stands
