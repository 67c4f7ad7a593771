use Rattle.sqlite.specs.Held.{state}
use Rattle.fare_registry.proofs.Holds.{read_still, still_itself}
use Rattle.fare_registry.proofs.registering.registered_scheme.Goals as goal

pub returns-then-is_autocommit-clause-still : goal.returns-then-is_autocommit-clause-still
returns-then-is_autocommit-clause-still g c = read_still (state g.S.Store c.args.conn.now) (state g.S.Store c.kept_scheme.new.conn) c.kept_scheme.ensures.crash

pub returns-else-is_autocommit-clause-still : goal.returns-else-is_autocommit-clause-still
returns-else-is_autocommit-clause-still g c = still_itself (state g.S.Store c.args.conn.now)
