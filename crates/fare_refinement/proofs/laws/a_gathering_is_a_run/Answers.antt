use Rattle.fare_refinement.proofs.GatherTie.{gathering_is_run}
use Rattle.fare_refinement.proofs.laws.a_gathering_is_a_run.Goals as goal

pub returns : goal.returns
returns c = gathering_is_run
