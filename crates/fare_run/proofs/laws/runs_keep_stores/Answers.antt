use Rattle.fare_run.proofs.Many.{runs_keep}
use Rattle.fare_run.proofs.laws.runs_keep_stores.Goals as goal

pub returns : goal.returns
returns g c = runs_keep g.S.Store
