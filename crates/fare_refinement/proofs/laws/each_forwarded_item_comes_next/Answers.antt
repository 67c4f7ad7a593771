use Rattle.fare_refinement.proofs.NextGiven.{forward_comes}
use Rattle.fare_refinement.proofs.laws.each_forwarded_item_comes_next.Goals as goal

pub returns : goal.returns
returns c = forward_comes
