use Rattle.sqlite.specs.Held.{state}
use Rattle.fare_registry.proofs.Holds.{holds_still}
use Rattle.fare_registry.proofs.registering.register_scheme.Goals as goal

pub returns-clause-still : goal.returns-clause-still
returns-clause-still g c = holds_still (state g.S.Store c.args.conn.now) (state g.S.Store c.keep_scheme.new.conn) c.keep_scheme.ensures.crash
