use Rattle.sqlite.specs.Held.{state}
use Rattle.fare_tables.proofs.Making.{on_ok}
use Rattle.fare_ledger.specs.Held.{PutsLane}
use Rattle.fare_ledger.proofs.Puts.{other_numbers}
use Rattle.fare_ledger.proofs.writing.put_numbers.Goals as goal

pub returns-clause-puts : goal.returns-clause-puts
returns-clause-puts g c clean inside schema readable =
    let a = (state g.S.Store c.args.tx.now.conn.now).now in
    let b = (state g.S.Store c.put_lane.new.tx.conn.now).now in
    on_ok c.put_lane.result (λ (one : PutsLane c.args.layout.now a b c.args.device c.args.taken c.args.closed × _). (other_numbers c.args.layout.now a b c.args.device c.args.taken c.args.closed readable one.0, one.1))
    (c.put_lane.ensures.puts clean inside schema readable.lanes)
