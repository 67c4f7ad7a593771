use Rattle.std.proofs.Common.{arith, subst, sym}
use Rattle.sqlite.specs.Held.{state}
use Rattle.sqlite.specs.State.{HasCleanDisk}
use Rattle.fare_tables.specs.Cells.{AreRows}
use Rattle.fare_tables.proofs.Making.{on_ok}
use Rattle.fare_ledger.specs.Held.{IsLane, PutsLane, row_of}
use Rattle.fare_ledger.proofs.Puts.{both}
use Rattle.fare_ledger.proofs.writing.put_row.Goals as goal

pub returns-clause-puts : goal.returns-clause-puts
returns-clause-puts g c late inside schema readable =
    let a = (state g.S.Store c.args.tx.now.conn.now).now in
    let b = (state g.S.Store c.put_tap.new.tx.conn.now).now in
    let d = (state g.S.Store c.put_lane.new.tx.conn.now).now in
    let now = late in
    let clean : HasCleanDisk (state g.S.Store c.put_tap.new.tx.conn.now) = omega (arith, now, c.put_lane.ensures.survives.clean) in
    let first = c.in_ok-put_tap.ensures.puts clean inside schema in
    let r = c.args.row.now in
    on_ok c.put_lane.result (λ (second : PutsLane c.args.layout.now b d r.device r.lane c.args.closed × _). (both c.args.layout.now a b d (row_of r) c.args.closed readable first.0 second.0, second.1))
    ((rw (c.device.ensures, c.lane.ensures.value) at c.put_lane.ensures.puts) late first.1 first.0.schema (subst (AreRows IsLane) (sym first.0.lanes) readable.lanes))
