use Rattle.std.proofs.Common.{◌≡◌, ◌∙◌, sym, subst}
use Rattle.std.specs.Prelude.{true, false}
use Rattle.fare_world.specs.System.{start}
use Rattle.fare_world.specs.Whole.{StandsAt}
use Rattle.fare_trace.specs.Stores.{IsNewOutbox, ledger_is, outbox_is}
use Rattle.fare_trace.proofs.Stores.{ready, wants_memory}
use Rattle.fare_trace.proofs.plain_run.plain_world.Goals as goal

pub returns-in-Ok-clause-new : goal.returns-in-Ok-clause-new
returns-in-Ok-clause-new c =
    let outbox : IsNewOutbox outbox_is c.new.result = record { empty = c.new.ensures; lawful = tt } in
    let stands = c.in-Ok.ensures.start (ready outbox_is ledger_is c.args.scheme c.new.result c.in_ok-ledgers.ledgers.items outbox c.in_ok-ledgers.ensures) in
    subst (λ sc. StandsAt outbox_is ledger_is c.in-Ok.world (start sc)) (sym c.in-Ok.ensures.scheme) stands

pub unreachable-requires : goal.unreachable-requires
unreachable-requires c =
    let outbox : IsNewOutbox outbox_is c.new.result = record { empty = c.new.ensures; lawful = tt } in
    let memory = wants_memory c.args.scheme c.new.result c.in_ok-ledgers.ledgers.items c.in-Err._parts c.in-Err.fault outbox c.in_ok-ledgers.ensures c.in-Err.ensures.refused in
    let told : c.ne.result ≡ false = rw memory at c.ne.ensures in
    let both : true ≡ false = sym c.if-ne.true ∙ told in
    absurd (cc (both))
