use Rattle.sqlite.specs.Held.{state}
use Rattle.fare_opening.proofs.Olders.{neither_leaves}
use Rattle.fare_opening.proofs.older.look_back.Goals as goal

pub returns-in_err-rows_to_move-clause-crash : goal.returns-in_err-rows_to_move-clause-crash
returns-in_err-rows_to_move-clause-crash g c = neither_leaves (state g.S.Store c.args.conn.now) (state g.S.Store c.is_an_owners.new.conn) (state g.S.Store c.rows_to_move.new.conn) c.args.from.now.schema (λ before has. c.in_ok-is_an_owners.ensures.read before has) c.in_ok-is_an_owners.ensures.crash c.rows_to_move.ensures.crash

pub returns-clause-crash : goal.returns-clause-crash
returns-clause-crash g c = neither_leaves (state g.S.Store c.args.conn.now) (state g.S.Store c.is_an_owners.new.conn) (state g.S.Store c.rows_to_move.new.conn) c.args.from.now.schema (λ before has. c.in_ok-is_an_owners.ensures.read before has) c.in_ok-is_an_owners.ensures.crash c.rows_to_move.ensures.crash
