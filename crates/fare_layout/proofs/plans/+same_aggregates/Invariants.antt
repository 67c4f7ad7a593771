use Rattle.std.proofs.Common.{length}
use Rattle.fare_layout.proofs.plans.+same_aggregates.Given as goal

abbrev pub decreases-same_aggregates : goal.decreases-same_aggregates
decreases-same_aggregates l = length l.these.now
