use Rattle.fare_databases.proofs.Growing.{added_hold}
use Rattle.fare_databases.proofs.laws.added_schemes_keep_stores.Goals as goal

pub returns : goal.returns
returns c = added_hold
