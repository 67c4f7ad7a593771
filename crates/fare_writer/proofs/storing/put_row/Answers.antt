use Rattle.std.specs.Prelude.{Err}
use Rattle.std.proofs.Common.{subst}
use Rattle.fare_store.specs.declared.fault.Refused.{Refused}
use Rattle.fare_store.specs.declared.fault.StoreFault.{StoreFault}
use Rattle.fare_store.specs.Standing.{Writes}
use Rattle.fare_store.specs.OutboxWords.{store_judged, stored}
use Rattle.fare_writer.proofs.Puttings.{row_stored, row_failed}
use Rattle.fare_writer.proofs.storing.put_row.Goals as goal

pub returns-in-Ok : goal.returns-in-Ok
returns-in-Ok g c = row_stored (g.O.Outbox.standing c.args.outbox.now) (g.O.Outbox.standing c.store.new.self) c.args.row.now c.in-Ok.ensures

pub returns-in-Err-Failed : goal.returns-in-Err-Failed
returns-in-Err-Failed g c =
    let a = g.O.Outbox.standing c.args.outbox.now in
    let b = g.O.Outbox.standing c.store.new.self in
    row_failed a b c.args.row.now c.in-Err-Failed.fault c.from.result c.from.ensures
    (subst (λ (z : Refused StoreFault). Writes a b (store_judged a.value c.args.row.now) (stored c.args.row.now a.value) (Err z)) c.in-Err-Failed.field-0-is c.in-Err-Failed.ensures)
