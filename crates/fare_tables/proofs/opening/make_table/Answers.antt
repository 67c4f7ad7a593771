use Rattle.sqlite.specs.Held.{state}
use Rattle.fare_tables.proofs.Making.{makes}
use Rattle.fare_tables.proofs.opening.make_table.Goals as goal

pub returns-clause-made : goal.returns-clause-made
returns-clause-made g c clean inside table defines =
    let h = c.in_ok-change.ensures.ran clean inside in
    (makes (state g.S.Store c.args.tx.now.conn.now) (state g.S.Store c.change.new.tx.conn.now) c.args.sql.now table c.in_ok-change.field-0 defines h.0, h.1)
