use Rattle.std.proofs.Common.{length}
use Rattle.fare_layout.proofs.plans.+same_collations.Given as goal

abbrev pub decreases-same_collations : goal.decreases-same_collations
decreases-same_collations l = length l.a.now
