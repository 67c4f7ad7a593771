use Rattle.std.proofs.Common.{arith, IsTrue}
use Rattle.sqlite.specs.Held.{state}
use Rattle.sqlite.specs.State.{HasCleanDisk}
use Rattle.fare_opening.proofs.Grown.{empty_grown, made_first}
use Rattle.fare_opening.proofs.making.+make_tables.Goals as goal

pub returns-in-empty-clause-made : goal.returns-in-empty-clause-made
returns-in-empty-clause-made g t c clean inside grown grows = (empty_grown _ c.args.tables.now (state g.S.Store c.args.tx.now.conn.now).now grown c.in-empty.len_below grows, inside)

pub returns-in_ok-make_table-in-len1-up-clause-made : goal.returns-in_ok-make_table-in-len1-up-clause-made
returns-in_ok-make_table-in-len1-up-clause-made g t c clean inside grown grows =
    let a = (state g.S.Store c.args.tx.now.conn.now).now in
    let b = (state g.S.Store c.make_table.new.tx.conn.now).now in
    let e = (state g.S.Store c.make_tables.new.tx.conn.now).now in
    let late = clean in
    let before : HasCleanDisk (state g.S.Store c.make_table.new.tx.conn.now) = omega (arith, late, c.make_tables.ensures.survives.clean) in
    made_first (IsTrue (state g.S.Store c.make_table.new.tx.conn.now).in_transaction) (IsTrue (state g.S.Store c.make_tables.new.tx.conn.now).in_transaction) _ c.args.tables.now _ a b e grown c.make_tables.result c.in-len1-up.len_at_least grows (c.in_ok-make_table-in-len1-up.ensures.made before inside) (λ still rest. c.make_tables.ensures.made clean still grown rest)
