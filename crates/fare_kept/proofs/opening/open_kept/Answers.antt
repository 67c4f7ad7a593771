use Rattle.sqlite.specs.Held.{state}
use Rattle.fare_kept.specs.Statements.{kept_parts}
use Rattle.fare_kept.proofs.Placed.{all_stand}
use Rattle.fare_kept.proofs.opening.open_kept.Goals as goal

pub returns-clause-site : goal.returns-clause-site
returns-clause-site g c = all_stand c.open_beside.result kept_parts g.E.Design.parts (state g.S.Store c.args.conn.now).now.schema c.open_beside.ensures.placed
