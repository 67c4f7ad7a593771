use Rattle.std.proofs.Common.{length}
use Rattle.fare_layout.proofs.schemas.+same_roots.Given as goal

abbrev pub decreases-same_roots : goal.decreases-same_roots
decreases-same_roots l = length l.roots.now
