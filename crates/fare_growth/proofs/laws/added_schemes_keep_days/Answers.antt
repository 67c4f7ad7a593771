use Rattle.fare_growth.proofs.OneRule.{keeps_days}
use Rattle.fare_growth.proofs.laws.added_schemes_keep_days.Goals as goal

pub returns : goal.returns
returns c = keeps_days
