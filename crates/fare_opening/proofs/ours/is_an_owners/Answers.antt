use Rattle.sqlite.specs.Held.{state}
use Rattle.fare_opening.proofs.Olders.{neither_leaves}
use Rattle.fare_opening.proofs.ours.is_an_owners.Goals as goal

pub returns-clause-crash : goal.returns-clause-crash
returns-clause-crash g c = neither_leaves (state g.S.Store c.args.conn.now) (state g.S.Store c.has_meta.new.conn) (state g.S.Store c.is_emptied.new.conn) c.args.site.now.schema (λ before has. c.in_ok-has_meta.ensures.read before has) c.in_ok-has_meta.ensures.crash c.is_emptied.ensures.crash
