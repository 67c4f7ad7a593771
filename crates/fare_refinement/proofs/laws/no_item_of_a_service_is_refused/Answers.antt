use Rattle.fare_refinement.proofs.Unrefused.{service_unrefused}
use Rattle.fare_refinement.proofs.laws.no_item_of_a_service_is_refused.Goals as goal

pub returns : goal.returns
returns c = service_unrefused
