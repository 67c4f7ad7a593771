use Rattle.fare_refinement.proofs.ServeTie.{service_is_run}
use Rattle.fare_refinement.proofs.laws.a_service_is_a_run.Goals as goal

pub returns : goal.returns
returns c = service_is_run
