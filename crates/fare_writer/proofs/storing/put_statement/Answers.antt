use Rattle.std.specs.Prelude.{Err}
use Rattle.std.proofs.Common.{subst}
use Rattle.fare_store.specs.declared.fault.Refused.{Refused}
use Rattle.fare_store.specs.declared.fault.StatedFault.{StatedFault}
use Rattle.fare_store.specs.Standing.{Writes}
use Rattle.fare_store.specs.OutboxWords.{stated_judged, stored_statement}
use Rattle.fare_writer.proofs.Puttings.{statement_stored, statement_failed}
use Rattle.fare_writer.proofs.storing.put_statement.Goals as goal

pub returns-in-Ok : goal.returns-in-Ok
returns-in-Ok g c = statement_stored (g.O.Outbox.standing c.args.outbox.now) (g.O.Outbox.standing c.store_statement.new.self) c.args.statement.now c.in-Ok.ensures

pub returns-in-Err-Failed : goal.returns-in-Err-Failed
returns-in-Err-Failed g c =
    let a = g.O.Outbox.standing c.args.outbox.now in
    let b = g.O.Outbox.standing c.store_statement.new.self in
    statement_failed a b c.args.statement.now c.in-Err-Failed.fault c.from.result c.from.ensures
    (subst (λ (z : Refused StatedFault). Writes a b (stated_judged a.value c.args.statement.now) (stored_statement c.args.statement.now a.value) (Err z)) c.in-Err-Failed.field-0-is c.in-Err-Failed.ensures)
