use Rattle.fare_refinement.proofs.SessionsTie.{sessions_are_run}
use Rattle.fare_refinement.proofs.laws.sessions_are_a_run.Goals as goal

pub returns : goal.returns
returns c = sessions_are_run
