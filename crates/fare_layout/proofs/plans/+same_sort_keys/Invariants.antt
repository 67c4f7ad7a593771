use Rattle.std.proofs.Common.{length}
use Rattle.fare_layout.proofs.plans.+same_sort_keys.Given as goal

abbrev pub decreases-same_sort_keys : goal.decreases-same_sort_keys
decreases-same_sort_keys l = length l.these.now
