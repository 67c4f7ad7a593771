use Rattle.sqlite.specs.Held.{state}
use Rattle.fare_tables.proofs.Questions.{all_same, fails_same, asked_survives, all_live, fails_live, shown_is_open}
use Rattle.fare_tables.proofs.asking.ask_all.Goals as goal

pub returns-in-Ok-clause-same : goal.returns-in-Ok-clause-same
returns-in-Ok-clause-same g c live reads settled = all_same c.args.sql.now _ (state g.S.Store c.args.conn.now) (state g.S.Store c.query_all.new.self) _ reads (c.in-Ok.ensures.ok live.0)

pub returns-in-Ok-clause-crash : goal.returns-in-Ok-clause-crash
returns-in-Ok-clause-crash g c = asked_survives c.args.sql.now _ (state g.S.Store c.args.conn.now) (state g.S.Store c.query_all.new.self) c.query_all.ensures.survives

pub returns-in-Ok-clause-live : goal.returns-in-Ok-clause-live
returns-in-Ok-clause-live g c live = all_live c.args.sql.now _ (state g.S.Store c.args.conn.now) (state g.S.Store c.query_all.new.self) _ _ (c.in-Ok.ensures.ok live.0) c.query_all.ensures.survives live

pub returns-in-Ok-clause-stays : goal.returns-in-Ok-clause-stays
returns-in-Ok-clause-stays g c clean = shown_is_open c.args.sql.now _ (state g.S.Store c.args.conn.now) (state g.S.Store c.query_all.new.self) _ (c.in-Ok.ensures.ok clean)

pub returns-in-Err-clause-same : goal.returns-in-Err-clause-same
returns-in-Err-clause-same g c live reads settled = fails_same c.args.sql.now _ (state g.S.Store c.args.conn.now) (state g.S.Store c.query_all.new.self) _ reads settled live.1 (c.in-Err.ensures.err live.0)

pub returns-in-Err-clause-crash : goal.returns-in-Err-clause-crash
returns-in-Err-clause-crash g c = asked_survives c.args.sql.now _ (state g.S.Store c.args.conn.now) (state g.S.Store c.query_all.new.self) c.query_all.ensures.survives

pub returns-in-Err-clause-live : goal.returns-in-Err-clause-live
returns-in-Err-clause-live g c live = fails_live c.args.sql.now _ (state g.S.Store c.args.conn.now) (state g.S.Store c.query_all.new.self) _ _ (c.in-Err.ensures.err live.0) c.query_all.ensures.survives live
