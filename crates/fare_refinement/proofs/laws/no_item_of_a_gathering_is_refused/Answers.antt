use Rattle.fare_refinement.proofs.Free.{gathering_free}
use Rattle.fare_refinement.proofs.laws.no_item_of_a_gathering_is_refused.Goals as goal

pub returns : goal.returns
returns c = gathering_free
