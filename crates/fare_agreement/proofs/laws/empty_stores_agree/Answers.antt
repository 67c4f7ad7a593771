use Rattle.fare_agreement.proofs.Fresh.{empty_agrees}
use Rattle.fare_agreement.proofs.laws.empty_stores_agree.Goals as goal

pub returns : goal.returns
returns c = empty_agrees
