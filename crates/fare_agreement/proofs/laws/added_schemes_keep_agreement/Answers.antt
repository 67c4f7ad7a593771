use Rattle.fare_agreement.proofs.Growing.{added_agrees}
use Rattle.fare_agreement.proofs.laws.added_schemes_keep_agreement.Goals as goal

pub returns : goal.returns
returns c = added_agrees
