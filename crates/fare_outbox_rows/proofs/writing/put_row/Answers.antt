use Rattle.std.proofs.Common.{arith, subst, sym}
use Rattle.sqlite.specs.Held.{state}
use Rattle.sqlite.specs.State.{HasCleanDisk}
use Rattle.fare_tables.specs.Cells.{AreRows}
use Rattle.fare_tables.proofs.Making.{on_ok}
use Rattle.fare_outbox_rows.specs.Held.{IsDevice, PutsLink}
use Rattle.fare_outbox_rows.proofs.Puts.{both}
use Rattle.fare_outbox_rows.proofs.writing.put_row.Goals as goal

pub returns-clause-puts : goal.returns-clause-puts
returns-clause-puts g c late inside schema readable =
    let a = (state g.S.Store c.args.tx.now.conn.now).now in
    let b = (state g.S.Store c.put_tap.new.tx.conn.now).now in
    let d = (state g.S.Store c.put_link.new.tx.conn.now).now in
    let now = late in
    let clean : HasCleanDisk (state g.S.Store c.put_tap.new.tx.conn.now) = omega (arith, now, c.put_link.ensures.survives.clean) in
    let first = c.in_ok-put_tap.ensures.puts clean inside schema in
    let r = c.args.row.now in
    on_ok c.put_link.result (λ (second : PutsLink c.args.layout.now b d r.device r.link × _). (both c.args.layout.now a b d r readable first.0 second.0, second.1))
    ((rw (c.device.ensures, c.link.ensures.value) at c.put_link.ensures.puts) late first.1 first.0.schema (subst (AreRows IsDevice) (sym first.0.devices) readable.devices))
