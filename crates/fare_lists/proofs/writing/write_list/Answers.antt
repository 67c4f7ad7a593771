use Rattle.std.proofs.Common.{arith}
use Rattle.sqlite.specs.Held.{state}
use Rattle.sqlite.specs.State.{HasCleanDisk}
use Rattle.fare_tables.proofs.Making.{on_ok}
use Rattle.fare_opening.specs.Listed.{Puts}
use Rattle.fare_lists.specs.Lists.{told_list, rows_from}
use Rattle.fare_lists.proofs.Replaced.{replaced}
use Rattle.fare_lists.proofs.writing.write_list.Goals as goal

pub returns-clause-written : goal.returns-clause-written
returns-clause-written g c clean inside p w it site has wide =
    let a = (state g.S.Store c.args.tx.now.conn.now).now in
    let b = (state g.S.Store c.clear_rows.new.tx.conn.now).now in
    let e = (state g.S.Store c.put_rows.new.tx.conn.now).now in
    let t = c.args.table.now in
    let list = told_list c.args.list.now in
    let late = clean in
    let before : HasCleanDisk (state g.S.Store c.clear_rows.new.tx.conn.now) = omega (arith, late, c.put_rows.ensures.survives.clean) in
    let one = c.in_ok-clear_rows.ensures.cleared before inside p t.number t.columns w it.clears site has in
    on_ok c.put_rows.result (λ (two : Puts w t.number t.columns (rows_from 1 list) b e × _). (replaced w t list a b e wide one.0 two.0, two.1)) (c.put_rows.ensures.made clean one.1 p t.number t.columns w it.puts site one.0.schema)
