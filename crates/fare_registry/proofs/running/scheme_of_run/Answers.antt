use Rattle.sqlite.specs.Held.{state}
use Rattle.fare_registry.proofs.Followed.{kept_follows}
use Rattle.fare_registry.proofs.running.scheme_of_run.Goals as goal

pub returns-in-None-clause-follows : goal.returns-in-None-clause-follows
returns-in-None-clause-follows g c = λ live lawful. kept_follows (state g.S.Store c.args.conn.now).now c.registered_scheme.result (c.registered_scheme.ensures.kept live.0 lawful)
