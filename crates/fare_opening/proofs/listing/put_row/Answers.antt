use Rattle.sqlite.specs.Held.{state}
use Rattle.sqlite.specs.Values.{bound}
use Rattle.fare_opening.proofs.Filled.{puts_row}
use Rattle.fare_opening.proofs.listing.put_row.Goals as goal

pub returns-clause-made : goal.returns-clause-made
returns-clause-made g c clean inside p k columns w it site has =
    let old = state g.S.Store c.args.tx.now.conn.now in
    let new = state g.S.Store c.change.new.tx.conn.now in
    let ran = c.in_ok-change.ensures.ran clean inside in
    (puts_row p k columns c.args.put.now w it site old new (bound c.args.cells.now) c.in_ok-change.field-0 has ran.0, ran.1)
