use Rattle.sqlite.specs.Held.{state}
use Rattle.fare_tables.proofs.Questions.{prepared_same, prepared_live}
use Rattle.fare_tables.proofs.asking.touch.Goals as goal

pub returns-clause-same : goal.returns-clause-same
returns-clause-same g c = prepared_same _ _ (state g.S.Store c.args.conn.now) (state g.S.Store c.prepare.new.self) c.prepare.result c.prepare.ensures.ok c.prepare.ensures.err

pub returns-clause-live : goal.returns-clause-live
returns-clause-live g c = prepared_live _ _ (state g.S.Store c.args.conn.now) (state g.S.Store c.prepare.new.self) c.prepare.result c.prepare.ensures.ok c.prepare.ensures.err c.prepare.ensures.survives
