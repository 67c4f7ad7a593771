use Rattle.fare_tables.proofs.Statements.{stays_inside}
use Rattle.fare_tables.proofs.changing.change.Goals as goal

pub returns-in-Ok-clause-ran : goal.returns-in-Ok-clause-ran
returns-in-Ok-clause-ran g c clean inside = let h = c.in-Ok.ensures.runs clean inside in (h.0, h.1.mode)

pub returns-in-Ok-clause-inside : goal.returns-in-Ok-clause-inside
returns-in-Ok-clause-inside g c clean = stays_inside g.S.Store c.args.sql.now _ c.args.tx.now.conn.now c.execute.new.self.conn.now c.execute.result _ c.execute.ensures.ended (c.execute.ensures.runs clean)

pub returns-in-Err-clause-inside : goal.returns-in-Err-clause-inside
returns-in-Err-clause-inside g c clean = stays_inside g.S.Store c.args.sql.now _ c.args.tx.now.conn.now c.execute.new.self.conn.now c.execute.result _ c.execute.ensures.ended (c.execute.ensures.runs clean)
