use Rattle.fare_growth.proofs.Keeping.{keeps_look_ups}
use Rattle.fare_growth.proofs.laws.added_schemes_keep_look_ups.Goals as goal

pub returns : goal.returns
returns c = keeps_look_ups
