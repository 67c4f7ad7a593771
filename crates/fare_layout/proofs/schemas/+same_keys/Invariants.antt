use Rattle.std.proofs.Common.{length}
use Rattle.fare_layout.proofs.schemas.+same_keys.Given as goal

abbrev pub decreases-same_keys : goal.decreases-same_keys
decreases-same_keys l = length l.a.now
